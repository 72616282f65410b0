use Rattle.std.proofs.Common.{◌≡◌, ◌<◌, ◌∙◌, ap, arith, length, map, refl, subst, sym}
use Rattle.std.proofs.lemmas.List.{length-map}
use Rattle.std.specs.Rc.{rc_str_bytes}
use Rattle.rhai_lower.specs.NameIndexes.{IsIndexed}
use Rattle.rhai_lower.specs.SlotView.{slot_of}
use Rattle.rhai_lower.specs.Slots.{with_constant}
use Rattle.rhai_lower.proofs.NamedListLemmas.{names-set}
use Rattle.rhai_lower.proofs.SlotLemmas.{slots-set}
use Rattle.rhai_lower.proofs.scope.Scope.set_constant.Goals as goal

pub returns : goal.returns
returns c =
    let seen : map slot_of c.slots.inside.items.items ≡ c.args.self.now = ap (map slot_of) c.slots.view_is ∙ c.self.view_is in
    let below : c.args.index < length c.slots.inside.items.items = omega (arith, length-map c.slots.inside.items.items slot_of, ap length seen) in
    slots-set _ _ c.index_mut.result.now _ (λ v. record v { constant = c.args.constant }) below c.index_mut.ensures.value refl
    ∙ ap (λ slots. with_constant slots c.args.index c.args.constant) seen

pub invariant_of-slots : goal.invariant_of-slots
invariant_of-slots c =
    let seen : map slot_of c.slots.inside.items.items ≡ c.args.self.now = ap (map slot_of) c.slots.view_is ∙ c.self.view_is in
    let below : c.args.index < length c.slots.inside.items.items = omega (arith, length-map c.slots.inside.items.items slot_of, ap length seen) in
    subst (IsIndexed c.slots.inside.index) (sym (names-set (λ s. rc_str_bytes s.name) c.slots.inside.items.items c.args.index c.index_mut.result.now (record { name = c.index_mut.result.now.name; constant = c.args.constant; aliases = c.index_mut.result.now.aliases }) below c.index_mut.ensures.value refl)) c.slots.invariant
