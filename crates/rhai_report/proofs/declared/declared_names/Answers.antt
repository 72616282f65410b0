-- Each token declares what its place tells.
use Rattle.std.proofs.Common.{[], ◌∙◌, ◌+◌, ◌++◌, ◌∷◌, ap, arith, drop, map}
use Rattle.rhai_report.specs.Brackets.{token_of}
use Rattle.rhai_report.specs.Names.{declared_after, declared_by, part_of, place_after}
use Rattle.rhai_report.proofs.DeclaredLemmas.{declares_all, declares_more, with_found}
use Rattle.rhai_report.proofs.declared.declared_names.Goals as goal

pub loop-entry-init : goal.loop-entry-init
loop-entry-init c =
    let all = map token_of c.args.entries.now in (
      [],
      c.start-place.ensures,
      ap (λ (ns : _). map (λ n. n.now) ns ++ declared_after c.args.declared [] all)
          c.new-names.ensures.items,
    )

pub loop-entry-preserved : goal.loop-entry-preserved
loop-entry-preserved c =
    let i = c.loop-entry.invariant in
    let e = c.entry-item.result in
    let rest = declared_after c.args.declared (part_of e.token ∷ i.0)
    (map token_of (drop (c.loop-entry.entry-index + 1) c.args.entries.now)) in (
      part_of e.token ∷ i.0,
      c.after-place.ensures i.0 i.1 ∙ ap (λ p. place_after (p ∷ i.0)) c.part_of-part.ensures,
      ap (λ (ns : _). map (λ n. n.now) ns ++ rest) c.in_ok-push_found.ensures
          ∙ ap (λ ns. ns ++ rest) (with_found c.loop-entry.names.items c.declared_by-found.result
          (declared_by c.args.declared i.0 e.token) (c.declared_by-found.ensures i.0 i.1))
          ∙ declares_more c.args.declared i.0 _ _ c.args.entries.now c.loop-entry.entry-index e (omega arith)
          c.entry-item.is i.2,
    )

pub returns : goal.returns
returns c =
    let i = c.loop-entry.invariant in
    declares_all c.args.declared i.0 _ _ c.args.entries.now c.loop-entry.entry-index c.loop-entry-test.false i.2
