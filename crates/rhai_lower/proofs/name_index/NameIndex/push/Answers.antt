use Rattle.std.proofs.Common.{◌≡◌, ◌∙◌, ◌++◌, ◌∷◌, [], List, Some, ap, length, arith}
use Rattle.std.specs.Rc.{rc_str_bytes}
use Rattle.rhai_lower.specs.Texts.{Text}
use Rattle.rhai_lower.specs.NameIndexes.{Indexes}
use Rattle.rhai_lower.proofs.NameLemmas.{placed, pushed}
use Rattle.rhai_lower.proofs.name_index.NameIndex.push.Goals as goal

pub returns-clause-ok : goal.returns-clause-ok
returns-clause-ok c = λ (names : List Text) (h : Indexes c.args.self.now names).
    let place : c.len-place.result ≡ length c.args.self.now.previous.items = omega arith in
    pushed c.args.self.now (record { latest = c.insert.new.self; previous = c.push.new.self }) names (rc_str_bytes c.args.name) c.len-place.result h place
    (placed c.args.self.now.latest c.insert.new.self (rc_str_bytes c.args.name) (Some c.len-place.result) c.in_ok-previous.ensures.updates)
    (c.in_ok-push.ensures.items
    ∙ ap (λ l. l ++ c.in_ok-previous.previous ∷ []) c.in_ok-reserve.ensures.items
    ∙ ap (λ o. c.args.self.now.previous.items ++ o ∷ []) c.in_ok-previous.ensures.old)
