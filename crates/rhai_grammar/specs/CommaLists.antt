-- What a token is after a part of a list with commas.
use Rattle.std.specs.Prelude.{◌≡◌, Bool, true, false, not, codes, if◌then◌else◌, refl}
use Rattle.rhai_lower.specs.Texts.{Text}
use Rattle.rhai_lower.specs.Lexemes.{Lexeme, Faulty, Name, Sign}
use Rattle.rhai_lower.specs.declared.token.Token.{Token}
use Rattle.rhai_lower.specs.declared.token.Token.TheVariants as token
use Rattle.rhai_grammar.specs.Causes as cause
use Rattle.rhai_grammar.specs.Causes.{Cause}
use Rattle.rhai_grammar.specs.Delivered.{is_end}
use Rattle.rhai_grammar.specs.Beginnings.{missing, is_name}
use Rattle.rhai_grammar.specs.declared.list.AfterPart.{AfterPart}
use Rattle.rhai_grammar.specs.declared.list.AfterPart.TheVariants.{Comma, Close, Nothing}
use Rattle.rhai_grammar.specs.declared.list.CommaList.{CommaList}
use Rattle.rhai_grammar.specs.declared.list.CommaList.TheVariants.{Arguments, Arms, Array, ClosureParameters, Map}
use Rattle.rhai_grammar.specs.declared.list.CommaList.TheVariants.{Parameters}

abbrev pub sign_after : CommaList → Token → AfterPart
sign_after Arguments token.Comma = Comma
sign_after Arguments token.RightParen = Close
sign_after Arguments _ = Nothing
sign_after Array token.Comma = Comma
sign_after Array token.RightBracket = Close
sign_after Array _ = Nothing
sign_after Map token.Comma = Comma
sign_after Map token.RightBrace = Close
sign_after Map _ = Nothing
sign_after Arms token.Comma = Comma
sign_after Arms token.RightBrace = Close
sign_after Arms _ = Nothing
sign_after Parameters token.Comma = Comma
sign_after Parameters token.RightParen = Close
sign_after Parameters _ = Nothing
sign_after ClosureParameters token.Comma = Comma
sign_after ClosureParameters token.Pipe = Close
sign_after ClosureParameters _ = Nothing

-- what a token is after a part of a list
abbrev pub after_part : CommaList → Lexeme → AfterPart
after_part parts (Sign t) = sign_after parts t
after_part parts _ = Nothing

abbrev pub is_close : AfterPart → Bool
is_close Close = true
is_close _ = false

abbrev pub closing_text : CommaList → Text
closing_text Arguments = codes ")"
closing_text Array = codes "]"
closing_text Map = codes "}"
closing_text Arms = codes "}"
closing_text Parameters = codes ")"
closing_text ClosureParameters = codes "|"

-- Where another token follows a part, a comma is missing before it, or else the closing token: that is missing at the
-- end of the stream, but for parameters, and after a property before all but a name.
abbrev pub wants_comma : CommaList → Lexeme → Bool
wants_comma Arguments l = not (is_end l)
wants_comma Array l = not (is_end l)
wants_comma Map l = is_name l
wants_comma Arms l = not (is_end l)
wants_comma Parameters l = true
wants_comma ClosureParameters l = true

-- what is missing there
abbrev pub due_after : CommaList → Lexeme → Text
due_after parts l = if wants_comma parts l then codes "," else closing_text parts

-- the error for such a token
abbrev pub not_after : CommaList → Lexeme → Cause
not_after parts l = missing (due_after parts l) l

-- A list of arguments cannot begin with the end mark or an error of the tokenizer.
abbrev pub no_argument : Lexeme → Bool
no_argument (Faulty f) = true
no_argument (Sign token.EOF) = true
no_argument _ = false

-- `]` closes an array and no list of arguments; after a value, a comma is missing before a name.
example : (after_part Array (Sign token.RightBracket) ≡ Close)
    × (after_part Arguments (Sign token.RightBracket) ≡ Nothing)
    × (not_after Arguments (Sign token.RightBracket) ≡ cause.MissingToken (codes ","))
    × (not_after Arguments (Sign token.EOF) ≡ cause.MissingToken (codes ")"))
    × (not_after Map (Name (codes "b")) ≡ cause.MissingToken (codes ","))
example = (refl, refl, refl, refl, refl)
