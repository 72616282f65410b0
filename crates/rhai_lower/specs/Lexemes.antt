-- Tokens as the definitions see them: texts are bytes.
use Rattle.std.specs.Prelude.{◌≡◌, ℕ, ℤ, [], codes, refl}
use Rattle.std.specs.Fmt.{signed_decimal}
use Rattle.std.specs.Rc.{rc_str_bytes}
use Rattle.std.specs.Char.{encode_utf8}
use Rattle.rhai_lower.specs.Texts.{Text}
use Rattle.rhai_lower.specs.Tokens.{kind_of_sign, literal_of}
use Rattle.rhai_lower.specs.declared.token.LexError.{LexError}
use Rattle.rhai_lower.specs.declared.token.LexError.TheVariants as error
use Rattle.rhai_lower.specs.declared.token.Token.{Token}
use Rattle.rhai_lower.specs.declared.token.Token.TheVariants as token

-- what the tokenizer could not read
pub data Fault : Type 0 where
  UnterminatedString : Fault
  StringTooLong : (limit : ℕ) → Fault
  MalformedNumber : Text → Fault
  ImproperSymbol : (symbol note : Text) → Fault
  UnexpectedInput : Text → Fault
  NoMemory : Fault

-- an error of the tokenizer as the definitions see it
abbrev pub fault : LexError → Fault
fault error.UnterminatedString = UnterminatedString
fault (error.StringTooLong n) = StringTooLong n
fault (error.MalformedNumber t) = MalformedNumber (rc_str_bytes t)
fault (error.ImproperSymbol r) = ImproperSymbol (rc_str_bytes r.value.0) (rc_str_bytes r.value.1)
fault (error.UnexpectedInput t) = UnexpectedInput (rc_str_bytes t)
fault error.OutOfMemory = NoMemory

-- a token: one with a payload, or one that is always written the same
pub data Lexeme : Type 0 where
  Integer : ℤ → Lexeme
  Character : ℕ → Lexeme
  String : Text → Lexeme
  Interpolated : Text → Lexeme
  Name : Text → Lexeme
  Reserved : Text → Lexeme
  Faulty : Fault → Lexeme
  Comment : Text → Lexeme
  Sign : Token → Lexeme

-- a token of the code as the definitions see it
abbrev pub lexeme : Token → Lexeme
lexeme (token.IntegerConstant n) = Integer n
lexeme (token.CharConstant c) = Character c
lexeme (token.StringConstant t) = String (rc_str_bytes t)
lexeme (token.InterpolatedString t) = Interpolated (rc_str_bytes t)
lexeme (token.Identifier t) = Name (rc_str_bytes t)
lexeme (token.Reserved t) = Reserved (rc_str_bytes t)
lexeme (token.LexError e) = Faulty (fault e)
lexeme (token.Comment t) = Comment (rc_str_bytes t)
lexeme t = Sign t

-- Rhai's names of the kinds of tokens
abbrev pub kind_of : Lexeme → Text
kind_of (Integer n) = codes "IntegerConstant"
kind_of (Character c) = codes "CharConstant"
kind_of (String t) = codes "StringConstant"
kind_of (Interpolated t) = codes "InterpolatedString"
kind_of (Name t) = codes "Identifier"
kind_of (Reserved t) = codes "Reserved"
kind_of (Faulty f) = codes "LexError"
kind_of (Comment t) = codes "Comment"
kind_of (Sign t) = kind_of_sign t

-- a token's text
abbrev pub text_of : Lexeme → Text
text_of (Integer n) = signed_decimal n
text_of (Character c) = encode_utf8 c
text_of (String t) = t
text_of (Interpolated t) = t
text_of (Name t) = t
text_of (Reserved t) = t
text_of (Faulty f) = []
text_of (Comment t) = t
text_of (Sign t) = literal_of t

-- The token `+` is a sign, and its text is `+`.
example : (lexeme token.Plus ≡ Sign token.Plus) × (text_of (Sign token.Plus) ≡ codes "+")
example = (refl, refl)
