-- What a token begins where an operand is due, and what it is after one. It is also said of a token after a name and
-- after a dot.
use Rattle.std.specs.Prelude.{◌≡◌, ◌||◌, Bool, true, false, codes, if◌then◌else◌, refl}
use Rattle.rhai_lower.specs.Texts.{Text, same_text}
use Rattle.rhai_lower.specs.Names.{reserved_as}
use Rattle.rhai_lower.specs.Lexemes.{Lexeme, Integer, Character, String, Interpolated, Name, Reserved, Faulty, Sign}
use Rattle.rhai_lower.specs.Lexemes.{text_of}
use Rattle.rhai_lower.specs.Nodes.{Node, unit, boolean, integer, character, string}
use Rattle.rhai_lower.specs.declared.position.Position.{Position}
use Rattle.rhai_lower.specs.declared.token.Token.{Token}
use Rattle.rhai_lower.specs.declared.token.Token.TheVariants.{Unit, True, False, LeftParen, RightParen, LeftBracket}
use Rattle.rhai_lower.specs.declared.token.Token.TheVariants.{RightBracket, QuestionBracket, Period, Elvis, MapStart}
use Rattle.rhai_lower.specs.declared.token.Token.TheVariants.{LeftBrace, RightBrace, Comma, SemiColon, DoubleArrow}
use Rattle.rhai_lower.specs.declared.token.Token.TheVariants.{Minus, UnaryMinus, Plus, UnaryPlus, Bang, ExclusiveRange}
use Rattle.rhai_lower.specs.declared.token.Token.TheVariants.{InclusiveRange, DoubleColon}
use Rattle.rhai_lower.specs.declared.token.Token.TheVariants as token
use Rattle.rhai_grammar.specs.Causes as cause
use Rattle.rhai_grammar.specs.Causes.{Cause}
use Rattle.rhai_grammar.specs.Delivered.{is_end}
use Rattle.rhai_grammar.specs.declared.role.Beginning.{Beginning}
use Rattle.rhai_grammar.specs.declared.role.Beginning.TheVariants as begin
use Rattle.rhai_grammar.specs.declared.role.Construct.TheVariants as construct
use Rattle.rhai_grammar.specs.declared.role.Bars.TheVariants as bars
use Rattle.rhai_grammar.specs.declared.role.Calling.{Calling}
use Rattle.rhai_grammar.specs.declared.role.Calling.TheVariants as call
use Rattle.rhai_grammar.specs.declared.role.Linking.{Linking}
use Rattle.rhai_grammar.specs.declared.role.Linking.TheVariants as link

-- the error for an unexpected token; if it is an error of the tokenizer, that error
abbrev pub unexpected : Lexeme → Cause
unexpected (Faulty f) = cause.BadInput (cause.Lexer f)
unexpected l = cause.BadInput (cause.UnexpectedInput (text_of l))

-- the error for another token in place of a required one; if it is an error of the tokenizer, that error
abbrev pub missing : Text → Lexeme → Cause
missing due (Faulty f) = cause.BadInput (cause.Lexer f)
missing due l = cause.MissingToken due

-- ---- where an operand is expected

abbrev pub sign_beginning : Token → Beginning
sign_beginning Unit = begin.Value
sign_beginning True = begin.Value
sign_beginning False = begin.Value
sign_beginning LeftParen = begin.Group
sign_beginning LeftBracket = begin.Array
sign_beginning MapStart = begin.Map
sign_beginning LeftBrace = begin.Construct construct.Block
sign_beginning token.If = begin.Construct construct.If
sign_beginning token.Switch = begin.Construct construct.Switch
sign_beginning token.While = begin.Construct construct.While
sign_beginning token.Loop = begin.Construct construct.Loop
sign_beginning token.Do = begin.Construct construct.Do
sign_beginning token.For = begin.Construct construct.For
sign_beginning token.Or = begin.Closure bars.Pair
sign_beginning token.Pipe = begin.Closure bars.List
sign_beginning Minus = begin.Sign
sign_beginning UnaryMinus = begin.Sign
sign_beginning Plus = begin.Sign
sign_beginning UnaryPlus = begin.Sign
sign_beginning Bang = begin.Sign
sign_beginning ExclusiveRange = begin.Range
sign_beginning InclusiveRange = begin.Range
sign_beginning _ = begin.Nothing

-- what a token begins
abbrev pub beginning : Lexeme → Beginning
beginning (Integer n) = begin.Value
beginning (Character c) = begin.Value
beginning (String t) = begin.Value
beginning (Interpolated t) = begin.Interpolated
beginning (Name t) = begin.Name
beginning (Reserved t) = begin.Word
beginning (Sign t) = sign_beginning t
beginning _ = begin.Nothing

-- the error for a token that begins no operand
abbrev pub no_operand : Lexeme → Cause
no_operand l = if is_end l then cause.UnexpectedEOF else unexpected l

-- the node of a token that is a value
abbrev pub value_of : Lexeme → Position → Node
value_of (Integer n) at = integer n at
value_of (Character c) at = character c at
value_of (String t) at = string t at
value_of (Sign True) at = boolean true at
value_of (Sign False) at = boolean false at
value_of _ at = unit at

abbrev pub is_begun : Beginning → Bool
is_begun begin.Nothing = false
is_begun _ = true

abbrev pub is_value : Beginning → Bool
is_value begin.Value = true
is_value _ = false

abbrev pub is_sign : Beginning → Bool
is_sign begin.Sign = true
is_sign _ = false

-- After a range operator, these tokens stand for an omitted unit.
abbrev pub sign_omits_operand : Token → Bool
sign_omits_operand RightBracket = true
sign_omits_operand RightParen = true
sign_omits_operand RightBrace = true
sign_omits_operand Comma = true
sign_omits_operand SemiColon = true
sign_omits_operand DoubleArrow = true
sign_omits_operand _ = false

abbrev pub omits_operand : Lexeme → Bool
omits_operand (Sign t) = sign_omits_operand t
omits_operand _ = false

-- ---- after a name

abbrev pub sign_calling : Token → Calling
sign_calling Unit = call.Pair
sign_calling LeftParen = call.List
sign_calling Bang = call.Bang
sign_calling _ = call.Nothing

-- how a token calls the name before it
abbrev pub calling : Lexeme → Calling
calling (Sign t) = sign_calling t
calling _ = call.Nothing

abbrev pub is_call : Calling → Bool
is_call call.Nothing = false
is_call _ = true

-- arguments without a `!` before them
abbrev pub is_list : Calling → Bool
is_list call.Pair = true
is_list call.List = true
is_list _ = false

abbrev pub calls : Lexeme → Bool
calls l = is_call (calling l)

abbrev pub sign_qualifies : Token → Bool
sign_qualifies DoubleColon = true
sign_qualifies _ = false

-- `::`, which makes the name before it part of a path
abbrev pub qualifies : Lexeme → Bool
qualifies (Sign t) = sign_qualifies t
qualifies _ = false

-- The name before this token is no use of a variable: it is called, or part of a path.
abbrev pub excludes_use : Lexeme → Bool
excludes_use l = calls l || qualifies l

abbrev pub is_this : Text → Bool
is_this word = same_text word (codes "this")

abbrev called_part : Bool × Bool × Bool → Bool
called_part (reserved, called, method) = called

-- a reserved word that may be called
abbrev pub may_be_called : Text → Bool
may_be_called word = called_part (reserved_as word)

-- ---- after an operand

abbrev pub sign_linking : Token → Linking
sign_linking LeftBracket = link.Bracket
sign_linking QuestionBracket = link.Bracket
sign_linking Period = link.Dot
sign_linking Elvis = link.Dot
sign_linking _ = link.Nothing

-- how a token continues the operand before it
abbrev pub linking : Lexeme → Linking
linking (Sign t) = sign_linking t
linking _ = link.Nothing

abbrev pub is_link : Linking → Bool
is_link link.Nothing = false
is_link _ = true

-- a link with a question mark
abbrev pub is_negated_sign : Token → Bool
is_negated_sign QuestionBracket = true
is_negated_sign Elvis = true
is_negated_sign _ = false

abbrev pub is_negated : Lexeme → Bool
is_negated (Sign t) = is_negated_sign t
is_negated _ = false

abbrev method_part : Bool × Bool × Bool → Bool
method_part (reserved, called, method) = method

-- a reserved word that may be called as a method
abbrev pub may_be_method : Text → Bool
may_be_method word = method_part (reserved_as word)

-- what comes after a dot
pub data MemberRole : Type 0 where
  AMember : MemberRole
  -- no member, and the error for that
  NoMember : Cause → MemberRole

-- A member is a name, or a reserved word that may be called as a method.
abbrev pub member_role : Lexeme → MemberRole
member_role (Name t) = AMember
member_role (Reserved t) = if may_be_method t then AMember else NoMember (cause.Reserved t)
member_role (Faulty f) = NoMember (cause.BadInput (cause.Lexer f))
member_role l = NoMember cause.PropertyExpected

-- a name, not a reserved word
abbrev pub is_name : Lexeme → Bool
is_name (Name t) = true
is_name _ = false

-- `(` begins a group where an operand is expected, and calls the name before it; `print` may be called, `this` may not.
example : (beginning (Sign LeftParen) ≡ begin.Group) × (calling (Sign LeftParen) ≡ call.List)
    × (may_be_called (codes "print") ≡ true) × (may_be_called (codes "this") ≡ false)
example = (refl, refl, refl, refl)
