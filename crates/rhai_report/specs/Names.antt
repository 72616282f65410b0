-- Which names a text declares, as its tokens tell.
use Rattle.std.specs.Prelude.{◌≡◌, ◌&&◌, ◌||◌, ◌++◌, Bool, false, true, not, List, [], ◌∷◌, if◌then◌else◌, refl}
use Rattle.std.specs.Rc.{rc_str_bytes}
use Rattle.rhai_lower.specs.Texts.{Text}
use Rattle.rhai_lower.specs.declared.token.Token.{Token}
use Rattle.rhai_lower.specs.declared.token.Token.TheVariants as token
use Rattle.rhai_report.specs.declared.declared.Declared.{Declared}
use Rattle.rhai_report.specs.declared.declared.Declared.TheVariants.{Modules, Variables}
use Rattle.rhai_report.specs.declared.declared.Part.{Part}
use Rattle.rhai_report.specs.declared.declared.Part.TheVariants as part
use Rattle.rhai_report.specs.declared.declared.Place.{Place}

-- what a token is to a declaration
abbrev pub part_of : Token → Part
part_of token.Let = part.Binder
part_of token.Const = part.Binder
part_of token.As = part.Renamer
part_of token.For = part.Opener
part_of token.Catch = part.Opener
part_of token.Fn = part.Opener
part_of token.LeftParen = part.Paren
part_of token.Pipe = part.Bar
part_of token.Comma = part.Comma
part_of token.Period = part.Period
part_of (token.Identifier t) = part.Name
part_of (token.StringConstant t) = part.Text
part_of (token.Reserved t) = part.End
part_of (token.IntegerConstant n) = part.End
part_of (token.CharConstant c) = part.End
part_of token.True = part.End
part_of token.False = part.End
part_of token.Unit = part.End
part_of token.RightParen = part.End
part_of token.RightBracket = part.End
part_of token.RightBrace = part.End
part_of _ = part.Other

-- ---- where a name stands, by the tokens before it, the last one first

-- after `let` or `const`
abbrev pub is_bound : List Part → Bool
is_bound (part.Binder ∷ before) = true
is_bound _ = false

-- after `as`
abbrev pub is_renamed : List Part → Bool
is_renamed (part.Renamer ∷ before) = true
is_renamed _ = false

-- after `for`, `catch` or `fn`, with nothing but names, texts and periods between
unfoldable pub in_head : List Part → Bool
in_head (part.Opener ∷ before) = true
in_head (part.Name ∷ before) = in_head before
in_head (part.Text ∷ before) = in_head before
in_head (part.Period ∷ before) = in_head before
in_head _ = false

-- after the parenthesis of such a head, with nothing but names and commas between
unfoldable pub in_list : List Part → Bool
in_list (part.Paren ∷ before) = in_head before
in_list (part.Name ∷ before) = in_list before
in_list (part.Comma ∷ before) = in_list before
in_list _ = false

-- an operand ends here, so that a bar is an operator
abbrev pub ends_operand : List Part → Bool
ends_operand (part.Name ∷ before) = true
ends_operand (part.Text ∷ before) = true
ends_operand (part.End ∷ before) = true
ends_operand _ = false

-- after the first bar of a closure, with nothing but names and commas between
unfoldable pub in_bars : List Part → Bool
in_bars (part.Bar ∷ before) = not (ends_operand before) && not (in_bars before)
in_bars (part.Name ∷ before) = in_bars before
in_bars (part.Comma ∷ before) = in_bars before
in_bars _ = false

-- a name here is declared as one of these
abbrev pub is_declared : Declared → List Part → Bool
is_declared Variables before = is_bound before || (in_head before || (in_list before || in_bars before))
is_declared Modules before = is_renamed before

-- all that these tell of where a name stands
abbrev pub place_after : List Part → Place
place_after before = record {
  bound = is_bound before;
  renamed = is_renamed before;
  head = in_head before;
  list = in_list before;
  bars = in_bars before;
  operand = ends_operand before;
}

-- ---- the names

-- the name that a token is
abbrev pub name_in : Token → List Text
name_in (token.Identifier t) = rc_str_bytes t ∷ []
name_in _ = []

-- the name that a token declares, after these
abbrev pub declared_by : Declared → List Part → Token → List Text
declared_by which before t = if is_declared which before then name_in t else []

-- the names that tokens declare, after these
unfoldable pub declared_after : Declared → List Part → List Token → List Text
declared_after which before [] = []
declared_after which before (t ∷ ts) = declared_by which before t ++ declared_after which (part_of t ∷ before) ts

-- the names that the tokens of a text declare
abbrev pub declared_in : Declared → List Token → List Text
declared_in which ts = declared_after which [] ts

-- `fn f(` and `|a,` come before a variable; `(a,` and the operator in `a |` do not.
example : (is_declared Variables (part.Paren ∷ part.Name ∷ part.Opener ∷ []) ≡ true)
    × (is_declared Variables (part.Comma ∷ part.Name ∷ part.Bar ∷ []) ≡ true)
    × (is_declared Variables (part.Comma ∷ part.Name ∷ part.Paren ∷ []) ≡ false)
    × (is_declared Variables (part.Bar ∷ part.Name ∷ []) ≡ false)
unfolding in_head in_list in_bars
example = (refl, refl, refl, refl)
