-- What a handle owns, taken apart and put together. Assumes `Logic`.
use Rattle.std.proofs.Common.{◌≡◌, ℕ, List, [], ◌∷◌, ◌++◌, refl, subst}
use seplogic.Ra.Ura.{Ura}
use mir.Syntax.{impl, tnil, dnil}
use mir.Raw.{raw as bare}
use mir.Val.{Val, vstruct, vcons, vnil, of_list}
use base.Logic.{never, fst∗, snd∗, via, guard_i}
use base.Fraction.{full_share}
use types.Logic.{Logic, sem}
use types.Kit.{Item, Goal, Seq, Step, step, ‵, given, ◌$◌, drop, learn, use1, fsplit, fjoin, fpick, fpack}
use types.Kit.{feq_i, feq_l}
use contract.Monad.{fact_use}
use denote.RattleType.{RattleType, Valss}
use denote.Builtin.{RawPtr}
use denote.Memory.{lone, part_at}
use denote.RawPtr.{Ptr, block_ptr, null_ptr, ptr_val, in_a_block, Testable}
use denote.Signature.{Slot, plain}
use denote.Steps.{nothing}
use denote.Struct.Struct.{within}
use denote.Struct.Owning.{shape}
use Rattle.std.specs.Prelude.{Option, Some, None}
use Rattle.std.specs.Box.Ownership.{box_owns}
use Rattle.rhai_c.specs.Handles.{chunk}
use Rattle.std.proofs.GlobalToken.{dealloc_token-Testable}
use Rattle.std_alloc.proofs.BoxSteps.Form.{Bx}
use Rattle.std.specs.contracts.alloc.Global as heap
use Rattle.std.proofs.alloc.Global.TheLaws as heap_laws
use Rattle.std_heap.specs.contracts.GlobalAllocator.TheImpl.{ghosts, dict}
use Rattle.rhai_c.specs.Handles.{held}
use Rattle.rhai_c.specs.contracts.held.Held as Handle
use Rattle.rhai_c.specs.contracts.kept.Kept as Kept
use Rattle.rhai_c.proofs.kept.Kept.TheLaws as kept_laws
use Rattle.rhai_c.specs.contracts.parts.Parts as Parts

-- a box of a `Kept`
abbrev pub E : Bx
E = record {
  row = Kept.the_row;
  laws = kept_laws.the_row_laws;
  al = record {
    row = heap.the_row;
    laws =
        heap_laws.the_row_laws;
    g = ghosts;
    d = dict;
    drops = impl [] tnil dnil;
  };
}

abbrev pub From : Slot 0
From = plain (λ _. Parts.the_row Kept.the_row heap.the_row ghosts)

abbrev pub R : RattleType
R = Kept.the_row

-- the machine value of a handle
abbrev pub word : Ptr → Val
word p = vstruct (vcons (ptr_val p) vnil)

module _ {M : Type 1} {𝓤 : Ura M} {𝓛 : Logic 𝓤} {K : Type 0} {Γ : List (Item 𝓤)} {G : Goal 𝓤 𝓛.H}
  where
    pub held_out : K → (d : Handle.the_row.Denot) (vs : List Val)
        → (vs ≡ word d.at ∷ [] → Seq K 𝓛 (‵ (held R d.at d.value) ∷ Γ) G)
        → Seq K 𝓛 (‵ (Handle.the_row.own_val d vs) ∷ Γ) G
    held_out t d vs k =
        fsplit t $ fpick t (λ vss. fsplit t $ feq_l t (λ ev. fsplit t $ feq_l t (λ ep. drop t $ k
        (subst (λ (ps : List Val). vs ≡ vstruct (of_list (ps ++ [])) ∷ []) ep ev))))

    pub held_in : K → (p : Ptr) (x : Option Kept.the_row.Denot)
        → Step K 𝓛 (‵ (Handle.the_row.own_val (record { at = p; value = x }) (word p ∷ [])) ∷
        Γ) G (‵ (held R p x) ∷ Γ) G
    held_in t p x = step (λ s.
        nothing t $ feq_i t (List Val) (ptr_val p ∷ []) (ptr_val p ∷ []) refl $ fjoin t $
        feq_i t (List Val) (word p ∷ []) (word p ∷ []) refl $ fjoin t $
        fpack t (Valss (RawPtr ∷ [])) (within (shape Handle.the_type) (p, tt) (word p ∷ [])) (
          ptr_val p ∷
              [],
          tt,
        ) $ fjoin t $ s)

    -- null, and nothing; or a thing in a block, whose pointer may be compared with null
    pub either : K → (a : heap.the_row.Denot) (p : Ptr) (x : Option Kept.the_row.Denot)
        → (x ≡ None → p ≡ null_ptr → Seq K 𝓛 Γ G)
        → ((b o : ℕ) (y : Kept.the_row.Denot) → x ≡ Some y → p ≡ block_ptr b o → Testable (block_ptr b o)
        → Seq K 𝓛 (‵ (box_owns chunk R (block_ptr b o) y) ∷ Γ) G)
        → Seq K 𝓛 (‵ (held R p x) ∷ Γ) G
    either t a p None n s = feq_l t (λ e. n refl e)
    either t a p (Some y) n s =
        in_a_block t p (λ q. box_owns chunk R q y) (fst∗ 𝓤 (never 𝓤) (sem 𝓛 (chunk (bare (lone R.mir))
        null_ptr))) (λ b o e.
        let q : Ptr = block_ptr b o in
        use1 𝓛 (given (Testable q) (‵ (box_owns chunk R q y))) (fact_use 𝓤 (Testable q)
        (via 𝓤 _ (snd∗ 𝓤 (sem 𝓛 (part_at R full_share y b o)) (sem 𝓛 (chunk (bare (lone R.mir)) q)))
        (dealloc_token-Testable 𝓛 a (bare (lone R.mir)) q))
        (guard_i 𝓤 (Testable q) (sem 𝓛 (box_owns chunk R q y)))) $ learn t (λ m. s b o y refl e m))
