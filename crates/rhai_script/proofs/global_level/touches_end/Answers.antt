use Rattle.rhai_script.proofs.SpanLemmas.{last_touch, none_touch}
use Rattle.rhai_script.proofs.global_level.touches_end.Goals as goal

pub returns-in_default : goal.returns-in_default
returns-in_default c = none_touch c.args.spans.now c.in_default.len_below

pub returns-in-len2-up : goal.returns-in-len2-up
returns-in-len2-up c = last_touch c.args.spans.now c.in-len2-up.len_at_least
