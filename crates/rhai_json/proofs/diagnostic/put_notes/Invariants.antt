-- What is written is what is left from the index on, behind what was written.
use Rattle.std.proofs.Common.{◌≡◌, drop}
use Rattle.rhai_json.specs.Fields.{items}
use Rattle.rhai_json.specs.Reports.{note_value}
use Rattle.rhai_json.proofs.diagnostic.put_notes.Given as goal

abbrev pub invariant-loop-note : goal.invariant-loop-note
invariant-loop-note l =
    items note_value (drop l.note-index l.notes) l.out
    ≡ items note_value l.notes l.initial.out
