-- Tokens that are due, and errors in their place. Such a token continues or ends a construct.
use Rattle.std.specs.Prelude.{◌≡◌, Bool, true, false, codes, refl}
use Rattle.rhai_lower.specs.Texts.{Text}
use Rattle.rhai_lower.specs.Lexemes.{Lexeme, Sign}
use Rattle.rhai_lower.specs.declared.token.Token.{Token}
use Rattle.rhai_lower.specs.declared.token.Token.TheVariants as token
use Rattle.rhai_grammar.specs.Beginnings.{missing}
use Rattle.rhai_grammar.specs.Causes as cause
use Rattle.rhai_grammar.specs.Causes.{Cause}
use Rattle.rhai_grammar.specs.declared.due.DueToken.{DueToken}
use Rattle.rhai_grammar.specs.declared.due.DueToken.TheVariants.{LeftParen, RightParen, RightBracket, Colon, LeftBrace}
use Rattle.rhai_grammar.specs.declared.due.DueToken.TheVariants.{RightBrace, Comma, Equals, Pipe, DoubleArrow, In}
use Rattle.rhai_grammar.specs.declared.due.DueToken.TheVariants.{As, Catch, Else, Fn, If, Period}

-- how it is written
abbrev pub text_of_due : DueToken → Text
text_of_due LeftParen = codes "("
text_of_due RightParen = codes ")"
text_of_due RightBracket = codes "]"
text_of_due Colon = codes ":"
text_of_due LeftBrace = codes "{"
text_of_due RightBrace = codes "}"
text_of_due Comma = codes ","
text_of_due Equals = codes "="
text_of_due Pipe = codes "|"
text_of_due DoubleArrow = codes "=>"
text_of_due In = codes "in"
text_of_due If = codes "if"
text_of_due Else = codes "else"
text_of_due Catch = codes "catch"
text_of_due As = codes "as"
text_of_due Fn = codes "fn"
text_of_due Period = codes "."

abbrev is_due_sign : DueToken → Token → Bool
is_due_sign LeftParen token.LeftParen = true
is_due_sign RightParen token.RightParen = true
is_due_sign RightBracket token.RightBracket = true
is_due_sign Colon token.Colon = true
is_due_sign LeftBrace token.LeftBrace = true
is_due_sign RightBrace token.RightBrace = true
is_due_sign Comma token.Comma = true
is_due_sign Equals token.Equals = true
is_due_sign Pipe token.Pipe = true
is_due_sign DoubleArrow token.DoubleArrow = true
is_due_sign In token.In = true
is_due_sign If token.If = true
is_due_sign Else token.Else = true
is_due_sign Catch token.Catch = true
is_due_sign As token.As = true
is_due_sign Fn token.Fn = true
is_due_sign Period token.Period = true
is_due_sign _ _ = false

-- a token is the required one
abbrev pub is_due : DueToken → Lexeme → Bool
is_due d (Sign t) = is_due_sign d t
is_due d _ = false

-- the error for another token there
abbrev pub not_due : DueToken → Lexeme → Cause
not_due d l = missing (text_of_due d) l

-- Where `)` is required, `]` is refused as a missing `)`.
example : (is_due RightParen (Sign token.RightParen) ≡ true) × (is_due RightParen (Sign token.RightBracket) ≡ false)
    × (not_due RightParen (Sign token.RightBracket) ≡ cause.MissingToken (codes ")"))
example = (refl, refl, refl)
