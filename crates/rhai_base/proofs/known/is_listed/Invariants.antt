-- No list before the index has the name.
use Rattle.std.proofs.Common.{◌≡◌, drop}
use Rattle.rhai_grammar.specs.Imports.{is_among}
use Rattle.rhai_base.specs.Frames.{imported_names}
use Rattle.rhai_base.proofs.known.is_listed.Given as goal

abbrev pub invariant-loop-list : goal.invariant-loop-list
invariant-loop-list l =
    is_among l.name (imported_names (drop l.list-index l.lists))
    ≡ is_among l.name (imported_names l.lists)
