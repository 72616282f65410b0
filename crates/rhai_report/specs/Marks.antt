-- Marks: bytes of a file, with the line and column of the first one. A script may begin after the start of its file.
use lib.Utf8.{encode}
use Rattle.std.specs.Prelude.{◌≡◌, ◌⊎◌, ◌+◌, ◌-◌, ◌^◌, ◌<◌, ◌≤◌, ◌==◌, ℕ, Bool, false, Option, Some, length, min}
use Rattle.std.specs.Prelude.{codes, drop, option_map, refl, slice_index_or, slice_range, take}
use Rattle.std.specs.Bool.{MatchBool}
use Rattle.std.specs.List.{slice_get}
use Rattle.std.specs.Rc.{rc_str_bytes}
use Rattle.std.specs.Str.{IsCharBoundary, chars, encode_utf8_all}
use Rattle.rhai_lower.specs.Positions.{place}
use Rattle.rhai_lower.specs.Texts.{Text}
use Rattle.rhai_lower.specs.declared.position.Position.{Position}
use Rattle.rhai_lower.specs.declared.token.LexError.TheVariants as error
use Rattle.rhai_lower.specs.declared.token.Token.{Token}
use Rattle.rhai_lower.specs.declared.token.Token.TheVariants as token
use Rattle.rhai_tokenizer.specs.declared.tokens.Span.{Span}
use Rattle.rhai_tokenizer.specs.declared.tokens.Tokens.{Tokens}
use Rattle.rhai_report.specs.Lines.{BeginsLine, line_at}
use Rattle.rhai_report.specs.declared.mark.Mark.{Mark}

-- the byte of a file that is this one of its script, which begins at byte `from`; at most the greatest number
abbrev pub byte_in_file : (from byte : ℕ) → ℕ
byte_in_file from byte = min (byte + from) (2 ^ 64 - 1)

-- the bytes of a file that are these of its script
abbrev pub span_in_file : (from : ℕ) → Span → Span
span_in_file from s = record { start = byte_in_file from s.start; stop = byte_in_file from s.stop }

-- the column of a byte: one more than the number of characters before it in its line, at most the greatest number
abbrev pub column_at : Text → (at : ℕ) → ℕ
column_at text at = min (length (chars (slice_range text (line_at text at).start at)) + 1) (2 ^ 64 - 1)

-- The byte of a text at which a position is: in the line of its number, after one character less than its column.
pub record IsByteAt (text : Text) (at : Position) (byte : ℕ) : Type 0 where
  pub start : ℕ
  pub begins : BeginsLine text at.line start
  pub column : byte ≡ start + length (encode_utf8_all (take (at.column - 1) (chars (drop start text))))

-- After a first line of 12 bytes, the bytes 3 to 5 of a script are 15 to 17 of its file. The `c` of the two lines `a`
-- and `bc` is in column 2, and byte 3.
example : (span_in_file 12 (record { start = 3; stop = 5 }) ≡ record { start = 15; stop = 17 })
    × (column_at (codes "a\nbc") 3 ≡ 2) × IsByteAt (codes "a\nbc") (place 2 2) 3
unfolding chars encode
example = (refl, refl, record { start = 2; begins = (refl, refl); column = refl })

-- The mark of these bytes of a text: it has their line and, if a character begins there, their column.
pub record Marks (text : Text) (bytes : Span) (m : Mark) : Type 0 where
  pub line : m.line ≡ (line_at text bytes.start).number
  pub column : IsCharBoundary text bytes.start → m.column ≡ column_at text bytes.start
  pub start : m.start ≡ bytes.start
  pub stop : m.stop ≡ bytes.stop

-- whether a token is an error about an escape in a string: it names a symbol that begins with a backslash
abbrev pub is_escape : Option Token → Bool
is_escape (Some (token.LexError (error.ImproperSymbol r))) = slice_index_or (rc_str_bytes r.value.0) 0 0 == 92
is_escape _ = false

-- the token of this index
abbrev pub token_at : Tokens → ℕ → Option Token
token_at tokens index = option_map (λ e. e.token) (slice_get tokens.entries.items index)

-- A mark of a part of these bytes. It is at a character in them, but not at the first one, and ends behind it.
pub record MarksPart (text : Text) (bytes : Span) (m : Mark) : Type 0 where
  pub at : ℕ
  pub after : bytes.start < at
  pub before : at < bytes.stop
  pub line : m.line ≡ (line_at text at).number
  pub column : IsCharBoundary text at → m.column ≡ column_at text at
  pub start : bytes.start ≤ m.start
  pub stop : at < m.stop

-- the mark of a token: of its bytes; but an error about an escape may mark this escape alone
abbrev pub MarksToken : Text → (bytes : Span) → Option Token → Mark → Type 0
MarksToken text bytes token m =
    MatchBool (is_escape token) (Marks text bytes m ⊎ MarksPart text bytes m) (Marks text bytes m)
