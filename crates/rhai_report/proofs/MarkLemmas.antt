-- The mark of a token is that of its bytes, or of an escape in them.
use Rattle.std.proofs.Common.{◌≡◌, ◌∙◌, ◌<◌, ℕ, Bool, false, true, List, Option, Some, None, ap, get_or, inl, inr}
use Rattle.std.proofs.Common.{length}
use Rattle.std.proofs.Common.{refl, subst, sym}
use Rattle.std.proofs.lemmas.Option.{slice_get_read}
use Rattle.std.specs.Bool.{MatchBool}
use Rattle.std.specs.List.{slice_get}
use Rattle.std.specs.Prelude.{◌⊎◌, IsSomeAnd, MatchOption}
use Rattle.rhai_lower.specs.Texts.{Text}
use Rattle.rhai_lower.specs.declared.token.Token.{Token}
use Rattle.rhai_tokenizer.specs.declared.tokens.Span.{Span}
use Rattle.rhai_tokenizer.specs.declared.tokens.Tokens.{Tokens}
use Rattle.rhai_report.specs.Marks.{Marks, MarksPart, MarksToken, is_escape, span_in_file, token_at}
use Rattle.rhai_report.specs.Reports.{IsMarkOf}
use Rattle.rhai_report.specs.declared.mark.Mark.{Mark}
use Rattle.rhai_report.specs.declared.report.Source.{Source}

-- the mark of all bytes is that of any token
pub marks_all : (text : Text) (bytes : Span) (token : Option Token) (m : Mark) → Marks text bytes m
    → MarksToken text bytes token m
marks_all text bytes token m h = by (is_escape token)
  where
    by : (b : Bool) → MatchBool b (Marks text bytes m ⊎ MarksPart text bytes m) (Marks text bytes m)
    by true = inl h
    by false = h

-- that of a part only of an escape
pub marks_part : (text : Text) (bytes : Span) (token : Option Token) (m : Mark) → (is_escape token ≡ false → ⊥)
    → MarksPart text bytes m → MarksToken text bytes token m
marks_part text bytes token m escapes h = by (is_escape token) escapes
  where
    by : (b : Bool) → (b ≡ false → ⊥) → MatchBool b (Marks text bytes m ⊎ MarksPart text bytes m) (Marks text bytes m)
    by true e = inr h
    by false e = absurd (e refl)

-- the mark of the bytes that stand at an index
pub marked : (source : Source) (tokens : Tokens) (index : ℕ) (spans : List Span) (span : Span) (token : Option Token)
    (m : Mark)
    → spans ≡ tokens.spans.items → index < length spans → span ≡ get_or spans index span
    → token ≡ token_at tokens index → MarksToken source.text.now (span_in_file source.start span) token m
    → IsMarkOf source tokens index (Some m)
marked source tokens index spans span token m s l g t h =
    let at : slice_get tokens.spans.items index ≡ Some span =
    ap (λ xs. slice_get xs index) (sym s) ∙ slice_get_read spans (length spans) index span refl l g in
    subst (λ o. MatchOption o (Some m ≡ None)
    (λ x. IsSomeAnd (Some m) (MarksToken source.text.now (span_in_file source.start x) (token_at tokens index))))
    (sym at) (subst (λ k. MarksToken source.text.now (span_in_file source.start span) k m) t h)
