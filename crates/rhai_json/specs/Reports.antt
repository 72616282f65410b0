-- What stands in the JSON for a report on a script that is refused.
use Rattle.std.specs.Prelude.{◌≡◌, Option, Some, None, List, [], ◌∷◌, codes, option_map, string_bytes, refl}
use Rattle.std.specs.Fmt.{digits}
use Rattle.json.specs.Token.{Token, begin_object, end_object, key, number}
use Rattle.rhai_lower.specs.Texts.{Text}
use Rattle.rhai_report.specs.declared.mark.Mark.{Mark}
use Rattle.rhai_report.specs.declared.report.Note.{Note}
use Rattle.rhai_report.specs.declared.report.Report.{Report}
use Rattle.rhai_tokenizer.specs.declared.tokens.Span.{Span}
use Rattle.rhai_json.specs.Errors.{refusal_fields}
use Rattle.rhai_json.specs.Fields.{◌▷◌, list_field, number_field, optional_number_field, optional_text_field, put}
use Rattle.rhai_json.specs.Fields.{span_field, text_field}

-- the bytes of a place
abbrev pub span_of : Mark → Span
span_of m = record { start = m.start; stop = m.stop }

-- a place: its line, its column, and its bytes; each null for no place
abbrev pub place_fields : Option Mark → List Token → List Token
place_fields m ts =
    ts ▷ optional_number_field (codes "line") (option_map (λ p. p.line) m)
    ▷ optional_number_field (codes "column") (option_map (λ p. p.column) m) ▷ span_field (option_map span_of m)

-- what may help
abbrev pub note_value : Note → List Token → List Token
note_value n ts =
    ts ▷ put begin_object ▷ text_field (codes "message") (string_bytes n.text) ▷ place_fields n.mark
    ▷ put end_object

-- the name of a file, if there is one
abbrev pub name_of : Text → Option Text
name_of [] = None
name_of (c ∷ cs) = Some (c ∷ cs)

-- a report
abbrev pub report_value : Report → List Token → List Token
report_value r ts =
    ts ▷ put begin_object ▷ optional_text_field (codes "file") (name_of r.source.name.now)
    ▷ refusal_fields r.error.now.0 ▷ text_field (codes "message") (string_bytes r.message) ▷ place_fields r.mark
    ▷ list_field (codes "notes") note_value r.notes.items ▷ put end_object

-- The first two bytes of a file have the fields `"line":1,"column":1,"span":{"start":0,"stop":2}`.
example : place_fields (Some (record { line = 1; column = 1; start = 0; stop = 2 })) [] ≡ key (codes "line")
    ∷ number (codes "1") ∷ key (codes "column") ∷ number (codes "1") ∷ key (codes "span") ∷ begin_object
    ∷ key (codes "start") ∷ number (codes "0") ∷ key (codes "stop") ∷ number (codes "2") ∷ end_object ∷ []
unfolding optional_number_field number_field span_field put digits
example = refl
