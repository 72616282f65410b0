-- Runs of the texts of a list.
use Rattle.std.proofs.Common.{◌≡◌, ℕ, zero, suc, ◌≤◌, Bool, true, false, not, ◌&&◌, List, [], ◌∷◌, ◌++◌, length, drop, refl, sym, ap, ◌∙◌, subst, arith, true≢false, append_assoc}
use Rattle.std.proofs.lemmas.Bool.{and_parts, and_from, not-true, not_from_false}
use Rattle.std.proofs.lemmas.List.{drop_at, drop-drop, length-append, length-drop}
use Rattle.std.specs.List.{concat, list_all}
use Rattle.rhai_lower.specs.Texts.{Text}
use Rattle.rhai_lower.specs.Names.{is_one_of}
use Rattle.rhai_tokenizer.specs.Bytes.{begins_any, begins_with, is_empty, is_run_of}
use Rattle.rhai_tokenizer.specs.Runs.{first_of, run_from}
use Rattle.rhai_tokenizer.proofs.ByteLemmas.{begins_split, first_of-member}

abbrev pub Again : List Text → Type 0
Again ts = (s next : Text) → is_one_of ts s ≡ true → (begins_any ts (s ++ next) ≡ true) × (first_of ts (s ++ next) ≡ s)

abbrev pub Some : List Text → Type 0
Some ts = (s : Text) → is_one_of ts s ≡ true → is_empty s ≡ false

-- a run that is read fits
abbrev pub RunStands : List Text → Text → List Text → Type 0
RunStands ts t ss = (concat ss ++ drop (length (concat ss)) t ≡ t)
    × (is_run_of ts ss (drop (length (concat ss)) t) ≡ true)

from_drop : (ts : List Text) (n : ℕ) (t : Text) → run_from ts n t ≡ run_from ts 0 (drop n t)
from_drop ts zero t = refl
from_drop ts (suc n) [] = refl
from_drop ts (suc n) (c ∷ t) = from_drop ts n t

shifted : (s : Text) (c : ℕ) (u : Text) → is_empty s ≡ false → drop (length (drop 1 s)) u ≡ drop (length s) (c ∷ u)
shifted [] c u h = absurd (true≢false h)
shifted (d ∷ s) c u h = refl

begins_nothing : (ts : List Text) → Some ts → begins_any ts [] ≡ true → is_empty (first_of ts []) ≡ false
begins_nothing ts some h = some (first_of ts []) (first_of-member ts [] h).0

no_front : (s : Text) → begins_with s [] ≡ true → is_empty s ≡ false → false ≡ true
no_front [] h e = sym e
no_front (c ∷ s) h e = h

pub run_none : (ts : List Text) (t : Text) → begins_any ts t ≡ false → run_from ts 0 t ≡ []
run_none ts [] h = refl
run_none ts (c ∷ t) h = rw h refl

pub run_step : (ts : List Text) → Some ts → (t : Text) → begins_any ts t ≡ true → run_from ts 0 t ≡ first_of ts t
    ∷ run_from ts 0 (drop (length (first_of ts t)) t)
run_step ts some [] h =
    let (member, front) = first_of-member ts [] h in
    absurd (true≢false (sym (no_front (first_of ts []) front (some (first_of ts []) member))))
run_step ts some (c ∷ t) h =
    let (member, front) = first_of-member ts (c ∷ t) h in
    rw h (ap (λ x. first_of ts (c ∷ t) ∷ x) (from_drop ts (length (drop 1 (first_of ts (c ∷ t)))) t
    ∙ ap (run_from ts 0) (shifted (first_of ts (c ∷ t)) c t (some (first_of ts (c ∷ t)) member))))

stands_none : (ts : List Text) (t : Text) → begins_any ts t ≡ false → RunStands ts t (run_from ts 0 t)
stands_none ts t h = subst (RunStands ts t) (sym (run_none ts t h)) (refl, not_from_false (begins_any ts t) h)

stands_step : (ts : List Text) (s t : Text) (ss : List Text) → is_one_of ts s ≡ true → begins_with s t ≡ true
    → RunStands ts (drop (length s) t) ss → RunStands ts t (s ∷ ss)
stands_step ts s t ss m front (split, fits) =
    let rest : drop (length (s ++ concat ss)) t ≡ drop (length (concat ss)) (drop (length s) t) =
    ap (λ n. drop n t) (length-append s (concat ss)) ∙ sym (drop-drop (length (concat ss)) (length s) t) in
    let (all, stop) = and_parts (list_all (is_one_of ts) ss) _ fits in (
      ap (λ x. (s ++ concat ss) ++ x) rest ∙ (append_assoc s (concat ss)
          (drop (length (concat ss)) (drop (length s) t)) ∙ (ap (λ x. s ++ x) split ∙ begins_split s t front)),
      subst (λ (x : Text). ((is_one_of ts s && list_all (is_one_of ts) ss) && not (begins_any ts x)) ≡ true) (sym rest)
          (and_from (is_one_of ts s && list_all (is_one_of ts) ss) _
          (and_from (is_one_of ts s) (list_all (is_one_of ts) ss) m all) stop),
    )

shorter : (s t : Text) (n : ℕ) → is_empty s ≡ false → length t ≤ suc n → length (drop (length s) t) ≤ n
shorter [] t n h e = absurd (true≢false h)
shorter (d ∷ s) t n h e = omega (arith, length-drop (length (d ∷ s)) t)

within : (n : ℕ) (ts : List Text) → Some ts → (t : Text) → length t ≤ n → RunStands ts t (run_from ts 0 t)
within zero ts some [] h = by (begins_any ts []) refl
  where
    by : (b : Bool) → begins_any ts [] ≡ b → RunStands ts [] (run_from ts 0 [])
    by true e = let (member, front) = first_of-member ts [] e in absurd
        (true≢false (sym (no_front (first_of ts []) front (some (first_of ts []) member))))
    by false e = stands_none ts [] e
within zero ts some (c ∷ t) h = absurd (omega arith)
within (suc n) ts some t h = by (begins_any ts t) refl (λ u. within n ts some u)
  where
    by : (b : Bool) → begins_any ts t ≡ b → ((u : Text) → length u ≤ n → RunStands ts u (run_from ts 0 u))
        → RunStands ts t (run_from ts 0 t)
    by false e ih = stands_none ts t e
    by true e ih =
        let (member, front) = first_of-member ts t e in
        subst (RunStands ts t) (sym (run_step ts some t e))
        (stands_step ts (first_of ts t) t _ member front
        (ih (drop (length (first_of ts t)) t) (shorter (first_of ts t) t n (some (first_of ts t) member) h)))

pub run_stands : (ts : List Text) → Some ts → (t : Text) → RunStands ts t (run_from ts 0 t)
run_stands ts some t = within (length t) ts some t (omega arith)

-- a run that fits is read
pub run_of_again : (ts : List Text) → Some ts → Again ts → (ss : List Text) (next : Text) → is_run_of ts ss next
    ≡ true → run_from ts 0 (concat ss ++ next) ≡ ss
run_of_again ts some again [] next h = run_none ts next (not-true (begins_any ts next) h)
run_of_again ts some again (s ∷ ss) next h =
    let (all, stop) = and_parts (is_one_of ts s && list_all (is_one_of ts) ss) (not (begins_any ts next)) h in
    let (m, more) = and_parts (is_one_of ts s) (list_all (is_one_of ts) ss) all in
    let (found, same) = again s (concat ss ++ next) m in
    ap (run_from ts 0) (append_assoc s (concat ss) next)
    ∙ (run_step ts some (s ++ (concat ss ++ next)) found
    ∙ (ap (λ x. x ∷ run_from ts 0 (drop (length x) (s ++ (concat ss ++ next)))) same
    ∙ (ap (λ x. s ∷ run_from ts 0 x) (drop_at s (concat ss ++ next) (length s) refl)
    ∙ ap (λ x. s ∷ x) (run_of_again ts some again ss next (and_from (list_all (is_one_of ts) ss) _ more stop)))))
