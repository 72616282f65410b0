use Rattle.std.proofs.Common.{◌≡◌, ◌<◌, ◌∙◌, ◌∷◌, ◌++◌, [], List, ap, arith, length, map, refl, subst, sym}
use Rattle.std.proofs.lemmas.List.{length-map, map-append, set-get_or}
use Rattle.std.proofs.lemmas.Result.{err_from_is_err_and}
use Rattle.std.specs.Rc.{rc_str_bytes}
use Rattle.rhai_lower.specs.NameIndexes.{IsIndexed}
use Rattle.rhai_lower.specs.SlotView.{slot_of}
use Rattle.rhai_lower.specs.Slots.{SlotValue, with_alias}
use Rattle.rhai_lower.specs.Texts.{Text}
use Rattle.rhai_lower.proofs.NamedListLemmas.{names-set}
use Rattle.rhai_lower.proofs.SlotLemmas.{slots-set}
use Rattle.rhai_lower.proofs.scope.Scope.add_alias_by_index.Goals as goal

pub returns-in_err-push-clause-err : goal.returns-in_err-push-clause-err
returns-in_err-push-clause-err c =
    let refused = err_from_is_err_and c.from_residual.result c.from_residual.ensures.1 in
    let seen : map slot_of c.slots.inside.items.items ≡ c.args.self.now = ap (map slot_of) c.slots.view_is ∙ c.self.view_is in
    let below : c.args.index < length c.slots.inside.items.items = omega (arith, length-map c.slots.inside.items.items slot_of, ap length seen) in
    let exported : List Text → SlotValue = λ aliases. record { name = rc_str_bytes c.index_mut.result.now.name; constant = c.index_mut.result.now.constant; aliases = aliases } in
    rw refused.1
    (slots-set _ _ c.index_mut.result.now _ (λ v. v) below c.index_mut.ensures.value
    (ap exported (ap (map rc_str_bytes) c.in_err-push.ensures.items))
    ∙ set-get_or _ _ _ ∙ seen)

pub returns-clause-ok : goal.returns-clause-ok
returns-clause-ok c =
    let seen : map slot_of c.slots.inside.items.items ≡ c.args.self.now = ap (map slot_of) c.slots.view_is ∙ c.self.view_is in
    let below : c.args.index < length c.slots.inside.items.items = omega (arith, length-map c.slots.inside.items.items slot_of, ap length seen) in
    let exported : List Text → SlotValue = λ aliases. record { name = rc_str_bytes c.index_mut.result.now.name; constant = c.index_mut.result.now.constant; aliases = aliases } in
    slots-set _ _ c.index_mut.result.now _ (λ v. record v { aliases = v.aliases ++ rc_str_bytes c.args.alias ∷ [] }) below c.index_mut.ensures.value
    (ap exported (ap (map rc_str_bytes) c.in_ok-push.ensures.items ∙ map-append rc_str_bytes _ _))
    ∙ ap (λ slots. with_alias slots c.args.index (rc_str_bytes c.args.alias)) seen

pub invariant_of-slots : goal.invariant_of-slots
invariant_of-slots c =
    let seen : map slot_of c.slots.inside.items.items ≡ c.args.self.now = ap (map slot_of) c.slots.view_is ∙ c.self.view_is in
    let below : c.args.index < length c.slots.inside.items.items = omega (arith, length-map c.slots.inside.items.items slot_of, ap length seen) in
    subst (IsIndexed c.slots.inside.index) (sym (names-set (λ s. rc_str_bytes s.name) c.slots.inside.items.items c.args.index c.index_mut.result.now (record { name = c.index_mut.result.now.name; constant = c.index_mut.result.now.constant; aliases = c.push.new.self }) below c.index_mut.ensures.value refl)) c.slots.invariant
