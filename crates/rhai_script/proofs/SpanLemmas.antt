-- The last two of some spans.
use Rattle.std.proofs.Common.{◌≡◌, ◌-◌, ◌<◌, ◌≤◌, ℕ, suc, false, List, [], ◌∷◌, arith, get_or, length, refl, subst, sym}
use Rattle.std.specs.Prelude.{◌==◌}
use Rattle.rhai_tokenizer.specs.Readings.{span}
use Rattle.rhai_tokenizer.specs.declared.tokens.Span.{Span}
use Rattle.rhai_script.specs.GlobalLevels.{touches_end}

one_less : (n k : ℕ) → k ≤ n → suc n - k ≡ suc (n - k)
one_less n k less = omega (arith, less)

-- the last two of these two and more
last_of : (x y : Span) (more : List Span)
    → ((get_or (x ∷ y ∷ more) (length (x ∷ y ∷ more) - 2) (span 0 0)).stop
    == (get_or (x ∷ y ∷ more) (length (x ∷ y ∷ more) - 1) (span 0 0)).start) ≡ touches_end (x ∷ y ∷ more)
last_of x y [] = refl
last_of x y (z ∷ more) =
    let ys = y ∷ z ∷ more in
    let n = length ys in
    subst (λ i. ((get_or (x ∷ ys) i (span 0 0)).stop == (get_or (x ∷ ys) (suc n - 1) (span 0 0)).start)
    ≡ touches_end ys)
    (sym (one_less n 2 (omega arith)))
    (subst (λ j. ((get_or ys (n - 2) (span 0 0)).stop == (get_or (x ∷ ys) j (span 0 0)).start) ≡ touches_end ys)
    (sym (one_less n 1 (omega arith))) (last_of y z more))

pub last_touch : (xs : List Span) → 2 ≤ length xs
    → ((get_or xs (length xs - 2) (span 0 0)).stop == (get_or xs (length xs - 1) (span 0 0)).start) ≡ touches_end xs
last_touch [] enough = absurd (omega (arith, enough))
last_touch (x ∷ []) enough = absurd (omega (arith, enough))
last_touch (x ∷ y ∷ more) enough = last_of x y more

pub none_touch : (xs : List Span) → length xs < 2 → false ≡ touches_end xs
none_touch [] few = refl
none_touch (x ∷ []) few = refl
none_touch (x ∷ y ∷ more) few = absurd (omega (arith, few))
