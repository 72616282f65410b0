-- The token of a piece by its kind and its bytes. No definition: it stands between the code and the forms.
use Rattle.std.specs.Prelude.{ℕ, Bool, true, false, not, ◌&&◌, ◌||◌, ◌==◌, nat_le, nat_lt, ◌∷◌}
use Rattle.std.specs.Prelude.{[], ◌+◌, ◌≡◌}
use Rattle.std.specs.Prelude.{Option, Some, None, codes, drop, take, length, slice_index, if◌then◌else◌}
use Rattle.std.specs.List.{list_all}
use Rattle.rhai_lower.specs.Texts.{Text, same_text}
use Rattle.rhai_lower.specs.Names.{is_word}
use Rattle.rhai_lower.specs.Lexemes.{Lexeme, Reserved, Faulty, Sign, UnexpectedInput, Comment, lexeme}
use Rattle.rhai_lower.specs.declared.token.Token.{Token}
use Rattle.rhai_lower.specs.declared.token.Token.TheVariants as token
use Rattle.rhai_tokenizer.specs.declared.braces.Brace.{Brace}
use Rattle.rhai_tokenizer.specs.declared.braces.Brace.TheVariants as brace
use Rattle.rhai_tokenizer.specs.declared.class.First.{First}
use Rattle.rhai_tokenizer.specs.declared.class.First.TheVariants as first
use Rattle.rhai_tokenizer.specs.declared.lexer.Kind.{Kind}
use Rattle.rhai_tokenizer.specs.declared.lexer.Kind.TheVariants as kind
use Rattle.rhai_tokenizer.specs.declared.limits.Limits.{Limits}
use Rattle.rhai_tokenizer.specs.declared.table.Fixed.{Fixed}
use Rattle.rhai_tokenizer.specs.declared.table.Meaning.{Meaning}
use Rattle.rhai_tokenizer.specs.declared.table.Meaning.TheVariants.{Plain, Held, Refused}
use Rattle.rhai_tokenizer.specs.Bytes.{base_of, begins_with, is_continuation}
use Rattle.rhai_tokenizer.specs.Cutting.{first_class, sign_cut}
use Rattle.rhai_tokenizer.specs.Tables.{token_of}
use Rattle.rhai_tokenizer.specs.Meanings.{brace_of_symbol, integer_or, without_return}
use Rattle.rhai_tokenizer.specs.Numbers.{digits_of, integer_value, radix_value}
use Rattle.rhai_tokenizer.specs.Symbols.{improper, word_lexeme}

-- a byte that takes a column
abbrev pub is_plain : ℕ → Bool
is_plain c = nat_lt c 128 && not (c == 10)

-- how many bytes take a column, where none ends a line
abbrev pub columns : Text → ℕ
columns [] = 0
columns (c ∷ t) = if is_continuation c then columns t else columns t + 1

abbrev pub is_small : ℕ → Bool
is_small c = nat_lt c 128

-- past all integers of 64 bits
abbrev pub past_bits : ℕ
past_bits = 0x1_0000_0000_0000_0000

abbrev pub unexpected : Text → Lexeme
unexpected t = Faulty (UnexpectedInput t)

-- the note of a number
abbrev pub note : ℕ → Text
note n =
    if n == 0 then codes "'===' is not a valid operator. This is not JavaScript! Should it be '=='?"
    else (if n == 1 then codes "'!==' is not a valid operator. This is not JavaScript! Should it be '!='?"
    else (if n == 2 then codes "'->' is not a valid symbol. This is not C or C++!"
    else (if n == 3 then codes "'<-' is not a valid symbol. Should it be '<='?"
    else (if n == 4
    then codes "':=' is not a valid assignment operator. This is not Go or Pascal! Should it be simply '='?"
    else (if n == 5 then codes "':;' is not a valid symbol. Should it be '::'?"
    else (if n == 6 then codes "'::<>' is not a valid symbol. This is not Rust! Should it be '::'?"
    else (if n == 7 then codes "'(* .. *)' is not a valid comment format. This is not Pascal! Should it be '/* .. */'?"
    else codes "'#' is not a valid symbol. Should it be '#{'?")))))))

abbrev pub meaning_of : Text → Meaning → Lexeme
meaning_of t (Plain k) = lexeme (token_of k)
meaning_of t Held = Reserved t
meaning_of t (Refused n) = improper t (note n)

abbrev pub cut_symbol : (operand : Bool) → Meaning → Text → Lexeme
cut_symbol operand m t =
    if operand && same_text t (codes "-") then Sign token.UnaryMinus
    else (if operand && same_text t (codes "+") then Sign token.UnaryPlus else meaning_of t m)

-- where an operand begins, these are other tokens
abbrev pub is_sign : ℕ → Bool
is_sign c = c == 43 || c == 45

-- the symbol of this first byte alone begins such a text, and means this token, also where an operand begins
pub record IsAlone (c : ℕ) (t : Text) (f : Fixed) : Type 0 where
  pub class : first.Other ≡ first_class c
  pub cut : ◌≡◌ {A = Kind × ℕ} (kind.Symbol (Plain f), 1) (sign_cut c t)
  pub sign : is_sign c ≡ false

-- the symbol of two bytes with which such a text begins is this token, also where an operand begins, and it changes no
-- braces
pub record IsPair (c : ℕ) (t : Text) (f : Fixed) : Type 0 where
  pub class : first.Other ≡ first_class c
  pub cut : ◌≡◌ {A = Kind × ℕ} (kind.Symbol (Plain f), 2) (sign_cut c t)
  pub minus : same_text (take 2 (c ∷ t)) (codes "-") ≡ false
  pub plus : same_text (take 2 (c ∷ t)) (codes "+") ≡ false
  pub brace : brace_of_symbol (take 2 (c ∷ t)) ≡ brace.Stays

abbrev pub cut_integer : (is_negative : Bool) → Text → Lexeme
cut_integer true t = integer_or (45 ∷ digits_of t) (integer_value true t)
cut_integer false t = integer_or (digits_of t) (integer_value false t)

-- the same of the whole pieces
abbrev pub is_doc_line_piece : Text → Bool
is_doc_line_piece t = begins_with (codes "///") t && not (begins_with (codes "////") t)

abbrev pub is_doc_block_piece : Text → Bool
is_doc_block_piece t = begins_with (codes "/**") t && not (begins_with (codes "/***") t || same_text t (codes "/**/"))

-- a piece of this kind may have these bytes
abbrev pub is_text_of : Kind → Text → Bool
is_text_of kind.Word t = list_all is_word t
is_text_of kind.Integer t = list_all is_small t
is_text_of kind.Negative t = nat_le 1 (length t) && list_all is_small t
is_text_of kind.Radix t = nat_le 2 (length t) && list_all is_small t
is_text_of k t = true

abbrev pub cut_token : Limits → Kind → (operand : Bool) → Text → Option Lexeme
cut_token limits kind.Blank operand t = None
cut_token limits kind.LineComment operand t =
    if limits.doc_comments && is_doc_line_piece t then Some (Comment (without_return t)) else None
cut_token limits kind.BlockComment operand t = if limits.doc_comments && is_doc_block_piece t then Some (Comment t)
    else None
cut_token limits kind.Word operand t = Some (word_lexeme t)
cut_token limits kind.Integer operand t = Some (cut_integer false t)
cut_token limits kind.Negative operand t = Some (cut_integer true (drop 1 t))
cut_token limits kind.Radix operand t = Some (integer_or (digits_of (drop 2 t))
    (radix_value (base_of (slice_index t 1)) (drop 2 t)))
cut_token limits (kind.Symbol m) operand t = Some (cut_symbol operand m t)
cut_token limits kind.NotIn operand t = Some (Sign token.NotIn)
cut_token limits kind.Stray operand t = Some (Faulty (UnexpectedInput t))

-- all bytes of a piece of this kind take a column
abbrev pub is_plain_kind : Kind → Bool
is_plain_kind kind.Blank = false
is_plain_kind kind.LineComment = false
is_plain_kind kind.BlockComment = false
is_plain_kind kind.Stray = false
is_plain_kind k = true

-- a string begins with a byte of this class
abbrev pub is_string_class : First → Bool
is_string_class first.Quote = true
is_string_class first.Tick = true
is_string_class first.Apostrophe = true
is_string_class k = false

abbrev pub cut_brace : Kind → Text → Brace
cut_brace (kind.Symbol m) t = brace_of_symbol t
cut_brace k t = brace.Stays

abbrev pub is_comment : Token → Bool
is_comment (token.Comment t) = true
is_comment t = false

-- whether a sign begins an operand after a token
abbrev pub operand_after_token : (operand : Bool) → Token → Bool
operand_after_token operand (token.LexError e) = true
operand_after_token operand (token.Comment t) = operand
operand_after_token operand token.SemiColon = true
operand_after_token operand token.Colon = true
operand_after_token operand token.Comma = true
operand_after_token operand token.ExclusiveRange = true
operand_after_token operand token.InclusiveRange = true
operand_after_token operand token.LeftBrace = true
operand_after_token operand token.LeftParen = true
operand_after_token operand token.LeftBracket = true
operand_after_token operand token.QuestionBracket = true
operand_after_token operand token.Equals = true
operand_after_token operand token.Pipe = true
operand_after_token operand token.Or = true
operand_after_token operand token.Bang = true
operand_after_token operand token.XOr = true
operand_after_token operand token.And = true
operand_after_token operand token.Ampersand = true
operand_after_token operand token.EqualsTo = true
operand_after_token operand token.NotEqualsTo = true
operand_after_token operand token.In = true
operand_after_token operand token.NotIn = true
operand_after_token operand token.LessThan = true
operand_after_token operand token.LessThanEqualsTo = true
operand_after_token operand token.GreaterThan = true
operand_after_token operand token.GreaterThanEqualsTo = true
operand_after_token operand token.Plus = true
operand_after_token operand token.Minus = true
operand_after_token operand token.Multiply = true
operand_after_token operand token.Divide = true
operand_after_token operand token.Modulo = true
operand_after_token operand token.PowerOf = true
operand_after_token operand token.LeftShift = true
operand_after_token operand token.RightShift = true
operand_after_token operand token.UnaryPlus = true
operand_after_token operand token.UnaryMinus = true
operand_after_token operand token.PlusAssign = true
operand_after_token operand token.MinusAssign = true
operand_after_token operand token.MultiplyAssign = true
operand_after_token operand token.DivideAssign = true
operand_after_token operand token.ModuloAssign = true
operand_after_token operand token.PowerOfAssign = true
operand_after_token operand token.LeftShiftAssign = true
operand_after_token operand token.RightShiftAssign = true
operand_after_token operand token.AndAssign = true
operand_after_token operand token.OrAssign = true
operand_after_token operand token.XOrAssign = true
operand_after_token operand token.If = true
operand_after_token operand token.While = true
operand_after_token operand token.Until = true
operand_after_token operand token.Return = true
operand_after_token operand token.Throw = true
operand_after_token operand t = false
