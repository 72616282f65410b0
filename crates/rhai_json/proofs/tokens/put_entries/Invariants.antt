-- What is written is what is left of both lists, behind what was written.
use Rattle.std.proofs.Common.{◌≡◌, zip}
use Rattle.rhai_json.specs.Fields.{items}
use Rattle.rhai_json.specs.TokenLists.{entry_value}
use Rattle.rhai_json.proofs.tokens.put_entries.Given as goal

abbrev pub invariant-loop-entry : goal.invariant-loop-entry
invariant-loop-entry l =
    items (entry_value l.from) (zip l.entry-iterator.a.rest.now l.entry-iterator.b.rest.now) l.out
    ≡ items (entry_value l.from) (zip l.entries l.spans) l.initial.out
