use Rattle.std.proofs.Common.{sym}
use Rattle.rhai_base.proofs.FindLemmas.{place-latest}
use Rattle.rhai_base.proofs.lookup.slot_number.Goals as goal

pub returns : goal.returns
returns c = place-latest c.new.result c.args.name.now c.args.slots.now c.len.result c.in_ok-index.index c.new.ensures c.len.ensures c.in_ok-index.ensures (sym c.if-eq.ensures)
