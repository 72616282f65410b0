-- The characters so far are there as they are shown.
use Rattle.std.proofs.Common.{◌≡◌, ◌++◌, length, map, string_bytes, take}
use Rattle.std.specs.Str.{chars, encode_utf8_all}
use Rattle.rhai_report.specs.Visible.{shown_as}
use Rattle.rhai_report.proofs.visible.push_visible.Given as goal

abbrev pub invariant-loop-character : goal.invariant-loop-character
invariant-loop-character l =
    string_bytes l.out
    ≡ string_bytes l.initial.out ++ encode_utf8_all (map shown_as (take (length l.yielded) (chars l.text)))
