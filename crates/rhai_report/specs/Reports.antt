-- What a report says of a refusal.
use Rattle.std.specs.Prelude.{◌≡◌, ◌==◌, ◌&&◌, ℕ, Bool, false, Option, None, IsSomeAnd, List, MatchOption, [], ◌∷◌}
use Rattle.std.specs.Prelude.{length, refl, string_bytes}
use Rattle.std.specs.Bool.{MatchBool}
use Rattle.std.specs.List.{position, slice_get}
use Rattle.std.specs.Option.{unwrap_or}
use Rattle.rhai_lower.specs.Positions.{place}
use Rattle.rhai_lower.specs.declared.position.Position.{Position}
use Rattle.rhai_lower.specs.declared.stream.Entry.{Entry}
use Rattle.rhai_lower.specs.declared.token.Token.TheVariants as token
use Rattle.rhai_grammar.specs.Messages.{is_nowhere}
use Rattle.rhai_grammar.specs.declared.error.ParseError.{ParseError}
use Rattle.rhai_tokenizer.specs.declared.tokens.Tokens.{Tokens}
use Rattle.rhai_report.specs.Marks.{MarksToken, span_in_file, token_at}
use Rattle.rhai_report.specs.Notes.{HasNotes}
use Rattle.rhai_report.specs.Reasons.{reason}
use Rattle.rhai_report.specs.declared.mark.Mark.{Mark}
use Rattle.rhai_report.specs.declared.report.Outside.{Outside}
use Rattle.rhai_report.specs.declared.report.Report.{Report}
use Rattle.rhai_report.specs.declared.report.Source.{Source}

-- whether a token is at this position
abbrev pub is_at : Position → Entry → Bool
is_at at e = e.pos.line == at.line && e.pos.column == at.column

-- the index of the first token at a position; that of the end mark, which is their number, if none is there
abbrev pub first_at : Position → List Entry → ℕ
first_at at entries = unwrap_or (position (is_at at) entries) (length entries)

-- the mark of the token, or the end, of this index, if there is one
abbrev pub IsMarkOf : Source → Tokens → (index : ℕ) → Option Mark → Type 0
IsMarkOf source tokens index mark =
    MatchOption (slice_get tokens.spans.items index) (mark ≡ None)
    (λ span. IsSomeAnd mark
    (MarksToken source.text.now (span_in_file source.start span) (token_at tokens index)))

-- the same, unless the refusal has no position
abbrev pub IsMarked : Source → Tokens → (index : ℕ) → Position → Option Mark → Type 0
IsMarked source tokens index at mark =
    MatchBool (is_nowhere at) (mark ≡ None) (IsMarkOf source tokens index mark)

-- A report names the file and the error, says why, has the mark of the token, and says what may help.
pub record Tells (source : Source) (tokens : Tokens) (index : ℕ) (outside : Outside) (error : ParseError)
    (report : Report) : Type 0
  where
    pub source_is : report.source ≡ source
    pub error_is : report.error.now ≡ error
    pub message : string_bytes report.message ≡ reason error.0
    pub mark : IsMarked source tokens index error.1 report.mark
    pub notes : HasNotes source tokens index error.0 outside report.notes.items

-- a token at line 1, column 3
abbrev example_entry : Entry
example_entry = record { token = token.SemiColon; pos = place 1 3; text = false }

example : (first_at (place 1 3) (example_entry ∷ []) ≡ 0) × (first_at (place 1 4) (example_entry ∷ []) ≡ 1)
example = (refl, refl)
