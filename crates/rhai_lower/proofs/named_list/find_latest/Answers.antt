use Rattle.std.proofs.Common.{◌≡◌, ◌<◌, ◌-◌, ◌∙◌, suc, length, map, ap, true, false, arith}
use Rattle.std.proofs.lemmas.List.{drop_all}
use Rattle.rhai_lower.specs.Texts.{same_text}
use Rattle.rhai_lower.specs.LatestNames.{latest_name}
use Rattle.rhai_lower.proofs.NameLemmas.{latest-none}
use Rattle.rhai_lower.proofs.NamedListLemmas.{latest-here, latest-other}
use Rattle.rhai_lower.proofs.named_list.find_latest.Goals as goal

pub loop-i-init : goal.loop-i-init
loop-i-init g c =
    ap (λ items. latest_name c.args.name.now (map g.T.HasName.text items)) (drop_all (length c.args.items.now) c.args.items.now (omega arith))
    ∙ latest-none c.args.name.now

pub returns-then-eq : goal.returns-then-eq
returns-then-eq g c =
    let e : c.loop-i.i ≡ suc (c.loop-i.i - 1) = omega arith in
    let l : c.loop-i.i - 1 < length c.args.items.now = omega arith in
    let h : true ≡ same_text (g.T.HasName.text c.index-items-i.result) c.args.name.now = c.if-eq.ensures ∙ ap (λ t. same_text t c.args.name.now) (c.as_str.ensures.value ∙ c.name.ensures) in
    latest-here g.T.HasName.text c.args.name.now c.args.items.now (c.loop-i.i - 1) c.loop-i.i c.index-items-i.result e l c.index-items-i.is h c.loop-i.invariant

pub loop-i-preserved : goal.loop-i-preserved
loop-i-preserved g c =
    let e : c.loop-i.i ≡ suc (c.loop-i.i - 1) = omega arith in
    let l : c.loop-i.i - 1 < length c.args.items.now = omega arith in
    let h : false ≡ same_text (g.T.HasName.text c.index-items-i.result) c.args.name.now = c.if-eq.ensures ∙ ap (λ t. same_text t c.args.name.now) (c.as_str.ensures.value ∙ c.name.ensures) in
    latest-other g.T.HasName.text c.args.name.now c.args.items.now (c.loop-i.i - 1) c.loop-i.i c.index-items-i.result e l c.index-items-i.is h c.loop-i.invariant
