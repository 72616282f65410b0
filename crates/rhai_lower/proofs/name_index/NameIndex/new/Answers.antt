use Rattle.std.proofs.Common.{sym}
use Rattle.rhai_lower.specs.Texts.{Text}
use Rattle.rhai_lower.proofs.NameLemmas.{latest-none}
use Rattle.rhai_lower.proofs.name_index.NameIndex.new.Goals as goal

pub returns : goal.returns
returns c = record { found = λ (name : Text). rw c.new.ensures.empty (sym (latest-none name)); earlier = c.new-2.ensures.items }
