-- What stands in the JSON for the tokens of a script.
use Rattle.std.specs.Prelude.{◌≡◌, ◌-◌, ℕ, Bool, false, Option, Some, List, [], ◌∷◌, codes, length}
use Rattle.std.specs.Prelude.{option_map, refl, slice_get, zip}
use Rattle.std.specs.Char.{encode_utf8}
use Rattle.std.specs.Fmt.{digits, signed_decimal}
use Rattle.json.specs.Token.{Token as Json, begin_array, begin_object, boolean, end_array, end_object, key}
use Rattle.json.specs.Token.{number, string}
use Rattle.rhai_lower.specs.Lexemes
use Rattle.rhai_lower.specs.Lexemes.{Character, Comment, Faulty, Integer, Interpolated, Lexeme, Name, Reserved, Sign}
use Rattle.rhai_lower.specs.Lexemes.{kind_of, lexeme}
use Rattle.rhai_lower.specs.Positions.{place}
use Rattle.rhai_lower.specs.Texts.{Text}
use Rattle.rhai_lower.specs.Tokens.{literal_of}
use Rattle.rhai_lower.specs.declared.position.Position.{Position}
use Rattle.rhai_lower.specs.declared.stream.Entry.{Entry}
use Rattle.rhai_lower.specs.declared.token.Token.{Token}
use Rattle.rhai_lower.specs.declared.token.Token.TheVariants as token
use Rattle.rhai_report.specs.Marks.{span_in_file}
use Rattle.rhai_tokenizer.specs.declared.tokens.Span.{Span}
use Rattle.rhai_tokenizer.specs.declared.tokens.Tokens.{Tokens}
use Rattle.rhai_json.specs.Errors.{fault_value}
use Rattle.rhai_json.specs.Fields.{◌▷◌, flag_field, items, number_field, position_field, put, span_field}
use Rattle.rhai_json.specs.Fields.{text_field}

-- what a token holds, or how it is written if it holds nothing
abbrev pub held : Lexeme → List Json → List Json
held (Integer n) ts = ts ▷ put (number (signed_decimal n))
held (Character c) ts = ts ▷ put (string (encode_utf8 c))
held (Lexemes.String t) ts = ts ▷ put (string t)
held (Interpolated t) ts = ts ▷ put (string t)
held (Name t) ts = ts ▷ put (string t)
held (Reserved t) ts = ts ▷ put (string t)
held (Faulty f) ts = ts ▷ fault_value f
held (Comment t) ts = ts ▷ put (string t)
held (Sign t) ts = ts ▷ put (string (literal_of t))

-- a token, its position, its bytes, and whether it is a text of an interpolated string after a block
abbrev pub token_value : Lexeme → Position → Option Span → Bool → List Json → List Json
token_value l p span is_text ts =
    ts ▷ put begin_object ▷ text_field (codes "kind") (kind_of l) ▷ put (key (codes "payload")) ▷ held l
    ▷ position_field (codes "position") p ▷ span_field span ▷ flag_field (codes "text") is_text ▷ put end_object

-- a token of a script that begins at a byte of its file, with its bytes in the script
abbrev pub entry_value : (from : ℕ) → (Entry × Span) → List Json → List Json
entry_value from e = token_value (lexeme e.0.token) e.0.pos (Some (span_in_file from e.1)) e.0.text

-- the bytes of the end mark, which are the last ones
abbrev pub end_span : (from : ℕ) → List Span → Option Span
end_span from spans = option_map (span_in_file from) (slice_get spans (length spans - 1))

-- the tokens of a script and its end mark
abbrev pub token_list : (from : ℕ) → Tokens → List Json
token_list from t =
    [] ▷ put begin_array ▷ items (entry_value from) (zip t.entries.items t.spans.items)
    ▷ token_value (Sign token.EOF) t.end (end_span from t.spans.items) false ▷ put end_array

-- `+` at the start of a script is `{"kind":"Plus","payload":"+","position":{"line":1,"column":1},
-- "span":{"start":0,"stop":1},"text":false}`.
example : token_value (Sign token.Plus) (place 1 1) (Some (record { start = 0; stop = 1 })) false [] ≡ begin_object
    ∷ key (codes "kind") ∷ string (codes "Plus") ∷ key (codes "payload") ∷ string (codes "+")
    ∷ key (codes "position") ∷ begin_object ∷ key (codes "line") ∷ number (codes "1") ∷ key (codes "column")
    ∷ number (codes "1") ∷ end_object ∷ key (codes "span") ∷ begin_object ∷ key (codes "start")
    ∷ number (codes "0") ∷ key (codes "stop") ∷ number (codes "1") ∷ end_object ∷ key (codes "text")
    ∷ boolean false ∷ end_object ∷ []
unfolding text_field number_field position_field span_field flag_field put digits
example = refl
