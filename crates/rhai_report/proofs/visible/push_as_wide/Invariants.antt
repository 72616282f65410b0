-- It is as wide as the parts so far.
use Rattle.std.proofs.Common.{◌≡◌, ◌==◌, length, string_bytes, take}
use Rattle.std.specs.List.{slice_split}
use Rattle.rhai_report.specs.Printed.{parts_wide}
use Rattle.rhai_report.proofs.visible.push_as_wide.Given as goal

abbrev pub invariant-loop-index : goal.invariant-loop-index
invariant-loop-index l =
    string_bytes l.out
    ≡ parts_wide l.fill (take (length l.yielded) (slice_split (λ b. b == 9) l.text)) (string_bytes l.initial.out)
