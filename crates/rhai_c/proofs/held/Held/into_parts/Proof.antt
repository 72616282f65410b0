-- `into_parts` tests the pointer, and hands on what the handle owns.
use Rattle.std.proofs.Common.{List, [], ◌∷◌, ◌++◌, refl, ap, ◌∙◌, lit<}
use mir.Val.{Val, vcons, vnil}
use base.Logic.{emp, id⊢}
use base.Fml.{ftrue, fsep}
use prog.Wp.{WpFn}
use contract.Running.{tables}
use types.Kit.{‵, raw, prop, at_ret, regoal, ◌⊛◌, ◌$◌, ◌∵◌, !, qed, keep, drop, move}
use types.Kit.{use0, use1, join, split, fsplit, fjoin, suffices, done}
use types.Part.{whole, sub, agg}
use types.Run.{stop, fld, lit, bin, no_more, and_then, of_opd, first, branches, skips, exec, returns, returns_within}
use types.Run.{enter}
use types.ByLocal.{alloc_all, pass_all, free_all, look_at, get, get_in, sets, env}
use types.Match.{live}
use denote.Exit.{yes}
use denote.RattleType.{RattleType}
use denote.RawPtr.{Ptr, block_ptr, null_ptr, tests_null}
use denote.Signature.{plain, type_at}
use denote.Steps.{nothing}
use denote.Triple.Walked.{says, Stays, stay_dropped, walk_of, ends_at, Goes-dropped}
use Rattle.std.proofs.raw_atomic.Walks.{proved_at}
use Rattle.std.specs.Prelude.{Some, None}
use Rattle.std.specs.contracts.alloc.Global as heap
use Rattle.core.proofs.option.Made.{Some-of, none_of}
use Rattle.core.proofs.cell.Inside.{Good}
use denote.Param.{layout}
use Rattle.core.proofs.alloc.Calls.{handle_tells}
use Rattle.std_alloc.proofs.BoxSteps.Form.{D, box_typed}
use Rattle.std_alloc.proofs.BoxSteps.Form as box
use Rattle.std_alloc.proofs.BoxSteps.Steps.{box_in}
use Rattle.std_alloc.proofs.ResultValues.{and_tt}
use Rattle.std_heap.specs.contracts.GlobalAllocator.TheImpl.{ghosts}
use Rattle.rhai_c.specs.contracts.parts.Parts as Parts
use Rattle.rhai_c.proofs.Holds.{E, R, word, held_out, either}
use Rattle.rhai_c.specs.contracts.held.Held as Handle
use Rattle.rhai_c.specs.contracts.held.Held.into_parts as f
use Rattle.rhai_c.proofs.held.Held.into_parts.Statement.{statement}
use Rattle.rhai_c.proofs.held.Held.into_parts.Code as code

abbrev stayed : Stays f.ended.signature.params f.ended.kept
stayed = (stay_dropped (plain (λ _. Handle.the_row)) yes, (stay_dropped (plain (λ _. heap.the_row)) yes, tt))

pub into_parts_spec : {M : Type 1} → statement M
into_parts_spec 𝓤 𝓛 𝓜 𝓡 wired =
    let c = f.clauses 𝓛 𝓜.mem 𝓡.returns in let 𝓣 = tables 𝓤 𝓛.H 𝓜 𝓡 𝓡.env in
    proved_at 𝓛 f.ended stayed c 𝓜 𝓡 (
      Goes-dropped 𝓛 0 (plain (λ _. Handle.the_row)) yes (λ κs x w.
          refl),
      (Goes-dropped 𝓛 0 (plain (λ _. heap.the_row)) yes (λ κs x w. refl), tt),
    )
    f.Key.name code.function (code.unfolded 𝓤 𝓛.H 𝓜 𝓡 wired) (λ z are.
    let d = z.0.3.0 in let a = z.0.3.1.0 in
    qed 𝓛 ((‵ ftrue ⊛ ‵ (fsep (Handle.the_row.own_val d z.0.4.0) (fsep (heap.the_row.own_val a z.0.4.1.0)
    ftrue))) ∷ raw (emp 𝓤) ∷ []) ∵ split ! $ drop ! $ fsplit ! $
    held_out ! d z.0.4.0 (λ ws. move ! (1 ∷ []) $ fsplit ! $
    handle_tells E.al ! a z.0.4.1.0 (λ hv ea fa. move ! (2 ∷ []) $
    let Post = (walk_of 𝓛 f.ended stayed c).post z in let Run = λ (xs : List Val). WpFn 𝓤 𝓛.H 𝓣.C 𝓣.Λ
    code.function xs Post in
    let Out : RattleType = type_at f.signature.result z.0.0 in
    let Pr : RattleType = Parts.the_row R heap.the_row ghosts in
    either ! a d.at d.value
    (λ none null. keep ! [] $ let w = word null_ptr in let r = live 0 vnil in
    regoal ! (λ (xs : List Val). prop (Run (xs ++ (z.0.4.1.0 ++ [])))) (ws ∙ ap (λ (q : Ptr). word q ∷
    []) null) refl $
    regoal ! (λ (xs : List Val). prop (Run (w ∷ (xs ++ [])))) ea refl $
    enter ! 𝓣.C 𝓣.Λ code.function (w ∷ hv ∷ []) Post $
    alloc_all ! (λ l. pass_all ! refl ((tt, (record { fits = lit< tt }, tt)), (fa, tt)) $
    sets ! (of_opd ! (get_in ! (fld ! refl (stop !)) (sub ! 0 refl (whole !)))) refl (tt, record { fits = lit< tt }) $
    sets ! (bin ! (get ! refl) (lit ! tt) tt) refl (tt, tt) $
    first ! $ branches ! (get ! refl)
    (λ _. sets ! (agg ! (and_then ! (lit ! tt) (no_more !))) refl (tt, (record { fits = lit< tt }, tt)) $
    returns_within ! Post refl (look_at ! 0 refl) $ free_all ! refl $
    suffices ! _ (ends_at 𝓛 f.ended stayed c z r None (tt, (tt, tt)) (tt, (tt, tt))) $ says ! none $
    use0 𝓛 (‵ (Out.own_val None (r ∷ []))) (none_of 𝓛 Pr) $
    nothing ! $ nothing ! $ fjoin ! $ nothing ! $ fjoin ! $ join ! $ nothing ! $ join ! $ done !)
    (λ wrong. absurd wrong)))
    (λ b o y some block m. keep ! (0 ∷ 1 ∷ []) $ let w = word (block_ptr b o) in let ws' = box.word E hv b o in
    let r = live 1 (vcons ws' vnil) in
    let typed = box_typed E hv b o fa in let good : Good (layout Out) r = (
      and_tt _ typed.0,
      (
        record {
          fits = lit< tt;
        },
        (typed.1, tt),
      ),
    ) in
    let v : D E = record { ptr = block_ptr b o; alloc = a; value = y } in
    let made : Pr.Denot = record { ptr = v.ptr; alloc = a; value = y } in
    regoal ! (λ (xs : List Val). prop (Run (xs ++ (z.0.4.1.0 ++ [])))) (ws ∙ ap (λ (q : Ptr). word q ∷
    []) block) refl $
    regoal ! (λ (xs : List Val). prop (Run (w ∷ (xs ++ [])))) ea refl $
    enter ! 𝓣.C 𝓣.Λ code.function (w ∷ hv ∷ []) Post $
    alloc_all ! (λ l. pass_all ! refl ((tt, (tt, tt)), (fa, tt)) $ let Ev = env code.Mir.locals l in
    sets ! (of_opd ! (get_in ! (fld ! refl (stop !)) (sub ! 0 refl (whole !)))) refl (tt, tt) $
    sets ! (bin ! (get ! refl) (lit ! tt) (tests_null (block_ptr b o) m)) refl (tt, tt) $
    first ! $ branches ! (get ! refl) (λ wrong. absurd wrong)
    (λ _. skips ! $ exec ! 𝓣.C 𝓣.Λ Ev code.Mir.t-4 (at_ret Ev Post) $
    sets ! (of_opd ! (get ! refl)) refl (tt, tt) $
    sets ! (agg ! (and_then ! (get ! refl) (and_then ! (get ! refl) (no_more !)))) refl typed $
    sets ! (agg ! (and_then ! (lit ! tt) (and_then ! (get ! refl) (no_more !)))) refl good $
    returns ! (look_at ! 0 refl) $ free_all ! refl $
    fsplit ! $ box_in E ! v b o y refl refl $ use1 𝓛 (‵ (Pr.own_val made (ws' ∷ []))) (id⊢ 𝓤 _) $
    use1 𝓛 (‵ (Out.own_val (Some made) (r ∷ []))) (Some-of 𝓛 Pr made ws') $
    suffices ! _ (ends_at 𝓛 f.ended stayed c z r (Some made) (tt, (tt, tt)) (tt, (tt, tt))) $ says ! some $
    nothing ! $ nothing ! $ fjoin ! $ nothing ! $ fjoin ! $ join ! $ nothing ! $ join ! $ done !))))))
