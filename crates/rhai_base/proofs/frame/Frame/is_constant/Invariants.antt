-- The slot with the index is the same one in the frame that is reached.
use Rattle.std.proofs.Common.{◌≡◌}
use Rattle.rhai_lower.specs.Slots.{slot_at}
use Rattle.rhai_base.proofs.frame.Frame.is_constant.Given as goal

abbrev pub invariant-loop-frame : goal.invariant-loop-frame
invariant-loop-frame l = slot_at l.self.live.slots l.index ≡ slot_at l.frame.live.slots l.index

abbrev pub decreases-loop-frame : goal.decreases-loop-frame
decreases-loop-frame l = l.frame.depth
