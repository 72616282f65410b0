use Rattle.std.proofs.Common.{◌≡◌, ◌+◌, ◌++◌, length, string_bytes}
use denote.Text.{Utf8}
use denote.Shadow.{shadow}
use Rattle.std.specs.List.{concat}
use Rattle.rhai_tokenizer.specs.Bytes.{spaces}
use Rattle.rhai_tokenizer.specs.Runs.{run_from}
use Rattle.rhai_tokenizer.specs.Strings.{past_column}
use Rattle.rhai_tokenizer.proofs.strings.spaces_past.Given as goal

abbrev pub invariant-loop-rest : goal.invariant-loop-rest
invariant-loop-rest l = record {
  values : string_bytes l.value ++ past_column l.column l.here (run_from spaces 0 l.rest)
      ≡ string_bytes l.initial.value ++ past_column l.column l.initial.here (run_from spaces 0 l.initial.rest);
  lens : l.at + length (concat (run_from spaces 0 l.rest)) ≡ length (concat (run_from spaces 0 l.initial.rest));
  within : l.at + length l.rest ≡ length l.initial.rest;
  utf8 : shadow (Utf8 l.rest);
}

abbrev pub decreases-loop-rest : goal.decreases-loop-rest
decreases-loop-rest l = length l.rest
