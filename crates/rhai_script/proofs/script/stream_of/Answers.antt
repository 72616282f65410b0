use Rattle.std.proofs.Common.{rules}
use Rattle.rhai_script.proofs.script.stream_of.Goals as goal

pub returns : goal.returns
returns c = record { tokens = c.in_ok-entries.field-0; reads = search rules; is = search rules }
