-- Where a line of a text begins and ends, a character begins.
use Rattle.std.proofs.Common.{◌≡◌, ◌∙◌, ◌+◌, ◌-◌, ◌<◌, ◌≤◌, ◌==◌, ℕ, suc, zero, Bool, true, false, List, [], IsUtf8}
use Rattle.std.proofs.Common.{ap, arith, drop}
use Rattle.std.proofs.Common.{eqb-true, get_or, if◌then◌else◌, inl, inr, length, length-drop, not, refl, reverse}
use Rattle.std.proofs.Common.{subst, sym, take}
use Rattle.std.proofs.lemmas.Bool.{cases_lt}
use Rattle.std.proofs.lemmas.List.{get_or-drop, get_or-reverse, get_or-take, get_or_past, length-reverse}
use Rattle.std.proofs.lemmas.List.{length-take-le}
use Rattle.std.proofs.lemmas.List.Sums.{prefix_len-le-length, prefix_len_stops}
use Rattle.std.proofs.lemmas.Str.{IsCharBoundary-after_ascii, IsCharBoundary-before_ascii, IsCharBoundary-end}
use Rattle.std.proofs.lemmas.Str.{IsCharBoundary-from_take}
use Rattle.std.specs.List.{prefix_len, suffix_len}
use Rattle.std.specs.Prelude.{◌⊎◌}
use Rattle.std.specs.Str.{IsCharBoundary}
use Rattle.rhai_report.specs.Lines.{is_inside, line_at}
use Rattle.rhai_report.specs.Snippets.{shown_end}
use Rattle.rhai_report.specs.declared.line.Line.{Line}

-- before the last bytes that pass stands one that does not
stops : (p : ℕ → Bool) (xs : List ℕ) → suffix_len p xs < length xs
    → p (get_or xs (length xs - 1 - suffix_len p xs) 0) ≡ false
stops p xs l =
    let k : suffix_len p xs < length (reverse xs) = omega (arith, l, length-reverse xs) in
    ap p (sym (get_or-reverse xs (suffix_len p xs) 0 l)) ∙ prefix_len_stops p (reverse xs) 0 k

denied : (b : Bool) → not b ≡ false → b ≡ true
denied true e = refl
denied false e = absurd cc

pub starts_before : (text : List ℕ) (at : ℕ) → at ≤ length text → (line_at text at).start ≤ at
starts_before text at l = omega (arith, length-take-le at text l)

pub line_begins : (text : List ℕ) (at : ℕ) → IsUtf8 text → at ≤ length text
    → IsCharBoundary text (line_at text at).start
line_begins text at u l = by (line_at text at).start refl
  where
    by : (s : ℕ) → (line_at text at).start ≡ s → IsCharBoundary text s
    by zero e = IsCharBoundary-from_take text 0 u (omega arith) ([], (refl, refl))
    by (suc s) e =
        let long : length (take at text) ≡ at = length-take-le at text l in
        let k : suffix_len is_inside (take at text) < length (take at text) = omega (arith, e) in
        let here : length (take at text) - 1 - suffix_len is_inside (take at text) ≡ s = omega (arith, e) in
        let below : s < at = omega (arith, e, long) in
        let inside : is_inside (get_or text s 0) ≡ false =
        ap is_inside (sym (get_or-take at text s 0 below)) ∙ ap (λ n. is_inside (get_or (take at text) n 0)) (sym here)
        ∙ stops is_inside (take at text) k in
        let feed : get_or text s 0 ≡ 10 = eqb-true (get_or text s 0) 10 (denied (get_or text s 0 == 10) inside) in
        subst (IsCharBoundary text) (omega arith)
        (IsCharBoundary-after_ascii text s u (omega (arith, below, l)) (omega (arith, feed)))

-- a byte that ends a line is a line feed
feed_at : (text : List ℕ) (k : ℕ) → is_inside (get_or text k 0) ≡ false → get_or text k 0 ≡ 10
feed_at text k e = eqb-true (get_or text k 0) 10 (denied (get_or text k 0 == 10) e)

pub line_ends : (text : List ℕ) (at : ℕ) → IsUtf8 text → at ≤ length text → IsCharBoundary text (line_at text at).stop
line_ends text at u l = by (cases_lt (prefix_len is_inside (drop at text)) (length (drop at text)))
  where
    long : length (take at text) ≡ at
    long = length-take-le at text l

    rest : length (drop at text) ≡ length text - at
    rest = length-drop at text

    within : prefix_len is_inside (drop at text) ≤ length (drop at text)
    within = prefix_len-le-length is_inside (drop at text)

    by : (prefix_len is_inside (drop at text) < length (drop at text))
        ⊎ (length (drop at text) ≤ prefix_len is_inside (drop at text)) → IsCharBoundary text (line_at text at).stop
    by (inl h) =
        let k = prefix_len is_inside (drop at text) in
        let feed : get_or text (at + k) 0 ≡ 10 =
        feed_at text (at + k)
        (ap is_inside (sym (get_or-drop at text k 0)) ∙ prefix_len_stops is_inside (drop at text) 0 h) in
        let w = within in
        let r = rest in
        subst (IsCharBoundary text) (ap (λ n. n + k) (sym long))
        (IsCharBoundary-before_ascii text (at + k) (omega arith) (omega (arith, feed)))
    by (inr h) =
        let g = long in
        let w = within in
        let r = rest in
        subst (IsCharBoundary text) (omega arith) (IsCharBoundary-end text)

-- also where a carriage return is left out
pub shown_ends : (text : List ℕ) (line : Line) → IsCharBoundary text line.stop
    → IsCharBoundary text (shown_end text line)
shown_ends text line b = by (get_or text (line.stop - 1) 0 == 13) refl
  where
    by : (r : Bool) → (get_or text (line.stop - 1) 0 == 13) ≡ r
        → IsCharBoundary text (if r then line.stop - 1 else line.stop)
    by false e = b
    by true e =
        let is : get_or text (line.stop - 1) 0 ≡ 13 = eqb-true (get_or text (line.stop - 1) 0) 13 e in
        elim (cases_lt (line.stop - 1) (length text)) [
          | inl h ↦ IsCharBoundary-before_ascii text (line.stop - 1) h (omega (arith, is))
          | inr h ↦ absurd (let past = get_or_past text (line.stop - 1) 0 h in omega (arith, is, past))
        ]
