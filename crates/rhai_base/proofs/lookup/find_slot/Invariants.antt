use Rattle.std.proofs.Common.{◌≡◌, None, drop, length}
use Rattle.std.specs.List.{list_any}
use Rattle.rhai_grammar.specs.Slots.{number, is_barrier}
use Rattle.rhai_base.proofs.lookup.find_slot.Given as goal

abbrev pub invariant-loop-i : goal.invariant-loop-i
invariant-loop-i l = record {
  all : l.len ≡ length l.slots;
  none_yet : number l.name (drop l.i l.slots) ≡ None;
  barrier_so_far : l.barrier ≡ list_any is_barrier (drop l.i l.slots);
}
