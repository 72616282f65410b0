-- The names that were found, and those that the rest declares, are those of all tokens.
use Rattle.std.proofs.Common.{◌≡◌, ◌++◌, List, drop, map}
use Rattle.rhai_report.specs.Brackets.{token_of}
use Rattle.rhai_report.specs.Names.{declared_after, declared_in, place_after}
use Rattle.rhai_report.specs.declared.declared.Part.{Part}
use Rattle.rhai_report.proofs.declared.declared_names.Given as goal

abbrev pub invariant-loop-entry : goal.invariant-loop-entry
invariant-loop-entry l =
    (before : List Part) × (l.place ≡ place_after before)
    × (map (λ n. n.now) l.names.items ++ declared_after l.declared before (map token_of (drop l.entry-index l.entries))
    ≡ declared_in l.declared (map token_of l.entries))
