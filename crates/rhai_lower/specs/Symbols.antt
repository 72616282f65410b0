-- Tokens without payload as a list of tokens writes them: each is found by its text.
use Rattle.std.specs.Prelude.{◌≡◌, ◌&&◌, ◌||◌, Bool, IfNone, IfSome, Option, Some, codes, false, is_some}
use Rattle.std.specs.Prelude.{None, not, refl, true}
use Rattle.std.specs.Char.{is_ascii_lowercase}
use Rattle.std.specs.List.{list_any}
use Rattle.rhai_lower.specs.Texts.{Text}
use Rattle.rhai_lower.specs.Tokens.{assigns, literal_of, strength_of, written_as}
use Rattle.rhai_lower.specs.declared.token.Token.{Token}
use Rattle.rhai_lower.specs.declared.token.Token.TheVariants.{IntegerConstant, CharConstant, StringConstant}
use Rattle.rhai_lower.specs.declared.token.Token.TheVariants.{InterpolatedString, Identifier, Reserved, LexError}
use Rattle.rhai_lower.specs.declared.token.Token.TheVariants.{Bang, Comment, EOF, NotIn, Plus, PlusAssign, UnaryPlus}

-- a token without payload but the end mark
abbrev pub is_symbol : Token → Bool
is_symbol (IntegerConstant value) = false
is_symbol (CharConstant character) = false
is_symbol (StringConstant text) = false
is_symbol (InterpolatedString text) = false
is_symbol (Identifier name) = false
is_symbol (Reserved text) = false
is_symbol (LexError error) = false
is_symbol (Comment text) = false
is_symbol EOF = false
is_symbol _ = true

abbrev pub has_letters : Token → Bool
has_letters t = list_any is_ascii_lowercase (literal_of t)

-- a word, as `let` and `!in`
abbrev pub is_word : Token → Bool
is_word t = is_symbol t && has_letters t

-- an operator that assigns
abbrev pub is_assignment : Token → Bool
is_assignment t = is_symbol t && assigns t

-- a binary operator that is no word
abbrev pub is_operator : Token → Bool
is_operator t = is_symbol t && (is_some (strength_of t) && not (has_letters t))

-- a symbol that is none of these
abbrev pub is_mark : Token → Bool
is_mark t = is_symbol t && not (has_letters t || (assigns t || is_some (strength_of t)))

-- The token among these that a list writes so, or none if there is none.
abbrev pub Written : (among : Token → Bool) → Text → Option Token → Type 0
Written among text found = IfSome found (λ t. (among t ≡ true) × (written_as t ≡ text))
    × IfNone found ((t : Token) → among t ≡ true → written_as t ≡ text → ⊥)

-- `u+` is the sign before an operand. `!in` is a word, `+` an operator, `!` neither. The end mark is not written.
example : Written is_symbol (codes "u+") (Some UnaryPlus) × (is_word NotIn ≡ true) × (is_operator Plus ≡ true)
    × (is_mark Bang ≡ true) × (is_assignment PlusAssign ≡ true) × (is_symbol EOF ≡ false)
example = (((refl, refl), tt), refl, refl, refl, refl, refl)
