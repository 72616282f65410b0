-- White space at the front of a text, as the code finds it.
use Rattle.std.proofs.Common.{not, ◌&&◌, nat_lt}
use Rattle.std.proofs.Common.{◌≡◌, ℕ, ◌+◌, ◌-◌, ◌<◌, ◌≤◌, Bool, true, false, cond, ◌||◌, ◌==◌, List, [], ◌∷◌, length, take, drop, get_or, refl, sym, ap, ◌∙◌, subst, arith, true≢false}
use Rattle.std.proofs.lemmas.Bool.{and_parts, false_from_ne_true}
use Rattle.std.proofs.lemmas.List.{take_rest, drop-drop, length-append}
use Rattle.std.specs.List.{concat}
use Rattle.rhai_lower.specs.Texts.{Text}
use Rattle.rhai_tokenizer.specs.declared.class.First.TheVariants as first
use Rattle.rhai_tokenizer.specs.Bytes.{begins, begins_any, begins_with, blanks, is_empty}
use Rattle.rhai_tokenizer.specs.Cutting.{begins_lone_blank, first_class, is_space}
use Rattle.rhai_tokenizer.specs.Runs.{first_of, run_from}
use Rattle.rhai_tokenizer.proofs.ByteLemmas.{first_of-member}
use Rattle.rhai_tokenizer.proofs.ClassLemmas.{other_byte}
use Rattle.rhai_tokenizer.proofs.FirstLemmas.{ClassFacts, class_facts}
use Rattle.rhai_tokenizer.proofs.RunLemmas.{Some, run_none, run_step}
use Rattle.rhai_tokenizer.proofs.TableLemmas.{blank_classes, blanks_again, blanks_some, near_blank, is_blank_class}
use Rattle.rhai_tokenizer.proofs.ByteLemmas.{at_member}
use Rattle.std.proofs.lemmas.Bool.{eqb-true, ltb-true, not-true}

pub first_none : (ts : List Text) (t : Text) → begins_any ts t ≡ false → first_of ts t ≡ []
first_none [] t h = refl
first_none (s ∷ ss) t h = by (begins_with s t) refl h (first_none ss t)
  where
    by : (b : Bool) → begins_with s t ≡ b → (b || begins_any ss t) ≡ false
        → (begins_any ss t ≡ false → first_of ss t ≡ []) → cond b s (first_of ss t) ≡ []
    by true e h ih = absurd (true≢false h)
    by false e h ih = ih h

pub some_begins : (ts : List Text) → Some ts → (t : Text) → begins_any ts t ≡ true → 0 < length (first_of ts t)
some_begins ts some t h =
    let (member, front) = first_of-member ts t h in
    longer (first_of ts t) (some (first_of ts t) member)
  where
    longer : (s : Text) → is_empty s ≡ false → 0 < length s
    longer [] h = absurd (true≢false h)
    longer (c ∷ s) h = omega arith

begins_cases : (ts : List Text) (t : Text) (P : Type 0) → (begins_any ts t ≡ true → P) → (begins_any ts t ≡ false → P)
    → P
begins_cases ts t P yes_it not_it = by (begins_any ts t) refl
  where
    by : (b : Bool) → begins_any ts t ≡ b → P
    by true e = yes_it e
    by false e = not_it e

pub run_ends : (ts : List Text) → Some ts → (t : Text) → length (first_of ts t) ≡ 0 → run_from ts 0 t ≡ []
run_ends ts some t h = begins_cases ts t (run_from ts 0 t
    ≡ []) (λ e. let n = some_begins ts some t e in absurd (omega (arith, n, h))) (run_none ts t)

pub run_goes : (ts : List Text) → Some ts → (t : Text) → 0 < length (first_of ts t) → run_from ts 0 t ≡ first_of ts t
    ∷ run_from ts 0 (drop (length (first_of ts t)) t)
run_goes ts some t h = begins_cases ts t _ (run_step ts some t)
    (λ e. let n = first_none ts t e in absurd (omega (arith, h, ap length n)))

-- ---- one character

nothing_blank : length (first_of blanks []) ≡ 0
unfolding blanks lib.Utf8.encode
nothing_blank = refl

pub blank_empty : (t : Text) → length t < 1 → 0 ≡ length (first_of blanks t)
blank_empty [] h = sym nothing_blank
blank_empty (c ∷ t) h = absurd (omega arith)

pub blank_space : (t : Text) → 1 ≤ length t → first.Space ≡ first_class (get_or t 0 0) → 1 ≡ length (first_of blanks t)
blank_space [] h e = absurd (omega arith)
blank_space (c ∷ t) h e =
    let near = subst (ClassFacts c) (sym e) (class_facts c) in
    sym (ap length (blanks_again (c ∷ []) t (near_blank c near)).1)

-- no white space begins with a byte of another class
pub blank_other : (t : Text) → is_blank_class (first_class (get_or t 0 0)) ≡ false → 0 ≡ length (first_of blanks t)
blank_other [] h = sym nothing_blank
blank_other (c ∷ t) h =
    let none : begins_any blanks (c ∷ t) ≡ false = false_from_ne_true (begins_any blanks (c ∷ t))
    (λ e. true≢false (sym (kind e) ∙ h)) in
    sym (ap length (first_none blanks (c ∷ t) none))
  where
    kind : begins_any blanks (c ∷ t) ≡ true → is_blank_class (first_class c) ≡ true
    kind e =
        let (member, front) = first_of-member blanks (c ∷ t) e in
        first_byte (first_of blanks (c ∷ t)) front (at_member (begins (λ d. is_blank_class (first_class d))) blanks
        (first_of blanks (c ∷ t)) member blank_classes)
      where
        first_byte : (s : Text) → begins_with s (c ∷ t) ≡ true → begins (λ d. is_blank_class (first_class d)) s ≡ true
            → is_blank_class (first_class c) ≡ true
        first_byte [] e b = absurd (true≢false (sym b))
        first_byte (d ∷ s) e b = ap (λ x. is_blank_class (first_class x))
            (eqb-true c d (and_parts (c == d) (begins_with s t) e).0) ∙ b

-- ---- a run

pub blanks_end : (z : Text) (at n : ℕ) (total : ℕ) → n ≡ length (first_of blanks (take (length z - at) (drop at z)))
    → n ≡ 0
    → at + length (concat (run_from blanks 0 (drop at z))) ≡ total → at ≡ total
blanks_end z at n total is none e =
    let same : n ≡ length (first_of blanks (drop at z)) = is ∙ ap (λ x. length (first_of blanks x)) (take_rest z at) in
    let stop = run_ends blanks blanks_some (drop at z) (sym same ∙ none) in
    let len : length (concat (run_from blanks 0 (drop at z))) ≡ 0 = ap (λ x. length (concat x)) stop in
    omega (arith, len, e)

pub blanks_step : (z : Text) (at n : ℕ) (total : ℕ) → n ≡ length (first_of blanks (take (length z - at) (drop at z)))
    → (n ≡ 0 → ⊥)
    → at + length (concat (run_from blanks 0 (drop at z))) ≡ total
    → (at + n) + length (concat (run_from blanks 0 (drop (at + n) z))) ≡ total
blanks_step z at n total is some e =
    let same : n ≡ length (first_of blanks (drop at z)) = is ∙ ap (λ x. length (first_of blanks x)) (take_rest z at) in
    let positive : 0 < n = omega arith in
    let goes = run_goes blanks blanks_some (drop at z) (omega (arith, same, positive)) in
    let rest : drop (length (first_of blanks (drop at z))) (drop at z) ≡ drop (at + n) z =
    ap (λ m. drop m (drop at z)) (sym same) ∙ drop-drop n at z in
    let len : length (concat (run_from blanks 0 (drop at z)))
    ≡ length (first_of blanks (drop at z)) + length (concat (run_from blanks 0 (drop (at + n) z))) =
    ap (λ x. length (concat x)) goes ∙ (length-append (first_of blanks (drop at z))
    (concat (run_from blanks 0 (drop (length (first_of blanks (drop at z))) (drop at z))))
    ∙ ap (λ x. length (first_of blanks (drop at z)) + length (concat (run_from blanks 0 x))) rest) in
    omega (arith, len, e, same)

-- ---- one blank

pub lone_blank : (z : Text) → begins_lone_blank z ≡ true → 1 ≡ length (concat (run_from blanks 0 z))
lone_blank [] h = absurd (true≢false (sym h))
lone_blank (c ∷ []) h = absurd (true≢false (sym h))
lone_blank (c ∷ (d ∷ t)) h =
    let (blank, more) = and_parts (c == 32) (not (is_space d) && nat_lt d 128) h in
    let (other, small) = and_parts (not (is_space d)) (nat_lt d 128) more in
    let z = c ∷ (d ∷ t) in
    let one : 1 ≡ length (first_of blanks z) = blank_space z (omega arith)
    (sym (ap first_class (eqb-true c 32 blank))) in
    let none : 0 ≡ length (first_of blanks (d ∷ t)) = blank_other (d ∷ t)
    (other_byte d (ltb-true d 128 small) (not-true (is_space d) other)) in
    let all : 0 + length (concat (run_from blanks 0 z)) ≡ length (concat (run_from blanks 0 z)) = omega arith in
    let after = blanks_step z 0 1 (length (concat (run_from blanks 0 z)))
    (one ∙ ap (λ x. length (first_of blanks x)) (sym (take_rest z 0))) (λ e. absurd (omega (arith, e))) all in
    blanks_end z 1 0 (length (concat (run_from blanks 0 z)))
    (none ∙ ap (λ x. length (first_of blanks x)) (sym (take_rest z 1))) refl after
