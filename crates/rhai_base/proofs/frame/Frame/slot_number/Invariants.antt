-- The slots of the frames that were left are later than those of the frame that is reached, and have other names.
use Rattle.std.proofs.Common.{◌≡◌, ◌≤◌, ◌+◌, ◌-◌, length, option_map}
use Rattle.rhai_grammar.specs.Slots.{number}
use Rattle.rhai_base.proofs.frame.Frame.slot_number.Given as goal

abbrev pub invariant-loop-place : goal.invariant-loop-place
invariant-loop-place l = record {
  all : l.len ≡ length l.self.live.slots;
  fewer : length l.frame.live.slots ≤ l.len;
  found : number l.name l.self.live.slots ≡ option_map (λ n. l.len - length l.frame.live.slots + n) (number l.name l.frame.live.slots);
}
