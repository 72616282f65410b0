-- What is left is what is after the characters that were passed.
use Rattle.std.proofs.Common.{◌≡◌, drop}
use Rattle.std.specs.Str.{chars, encode_utf8_all}
use Rattle.std.specs.Str.Iter.{chars_rest}
use Rattle.rhai_report.proofs.text.after_characters.Given as goal

abbrev pub invariant-loop-passed : goal.invariant-loop-passed
invariant-loop-passed l = chars_rest l.rest ≡ encode_utf8_all (drop l._passed (chars l.text))
