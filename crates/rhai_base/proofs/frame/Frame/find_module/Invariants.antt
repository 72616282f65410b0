-- The imports of the frames that were left are later than those of the frame that is reached, and have other names.
use Rattle.std.proofs.Common.{◌≡◌, ◌≤◌, ◌+◌, ◌-◌, length, option_map}
use Rattle.rhai_grammar.specs.Imports.{module_number}
use Rattle.rhai_base.proofs.frame.Frame.find_module.Given as goal

abbrev pub invariant-loop-place : goal.invariant-loop-place
invariant-loop-place l = record {
  all : l.count ≡ length l.self.live.imports;
  fewer : length l.frame.live.imports ≤ l.count;
  found : module_number l.name l.self.live.imports ≡ option_map (λ n. l.count - length l.frame.live.imports + n) (module_number l.name l.frame.live.imports);
}
