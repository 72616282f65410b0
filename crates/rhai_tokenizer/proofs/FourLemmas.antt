-- Runs of bytes of a class, four bytes at a time.
use Rattle.std.proofs.Common.{◌≡◌, ℕ, ◌+◌, ◌<◌, ◌≤◌, Bool, true, false, cond, [], ◌∷◌, drop, length, get_or, arith}
use Rattle.std.specs.List.{prefix_len}
use Rattle.rhai_lower.specs.Texts.{Text}

-- the run of a text is that of its first four bytes, or it goes on after them
pub record Four (p : ℕ → Bool) (t : Text) (n : ℕ) : Type 0 where
  pub ends : n < 4 → n ≡ prefix_len p t
  pub goes_on : 4 ≤ n → prefix_len p t ≡ 4 + prefix_len p (drop 4 t)

-- the run of four bytes, of which these are of the class, with one after them
abbrev run : (x y z w : Bool) → ℕ → ℕ
run x y z w m = cond x (1 + cond y (1 + cond z (1 + cond w (1 + m) 0) 0) 0) 0

pub four : (p : ℕ → Bool) (t : Text) (n : ℕ) → 4 ≤ length t
    → n ≡ prefix_len p (get_or t 0 0 ∷ get_or t 1 0 ∷ get_or t 2 0 ∷ get_or t 3 0 ∷ []) → Four p t n
four p [] n h e = absurd (omega arith)
four p (a ∷ []) n h e = absurd (omega arith)
four p (a ∷ (b ∷ [])) n h e = absurd (omega arith)
four p (a ∷ (b ∷ (c ∷ []))) n h e = absurd (omega arith)
four p (a ∷ (b ∷ (c ∷ (d ∷ t)))) n h e = let r = by (p a) (p b) (p c) (p d) (prefix_len p t) e in
    record { ends = r.0; goes_on = r.1 }
  where
    by : (x y z w : Bool) (m : ℕ) → n ≡ run x y z w 0 → (n < 4 → n ≡ run x y z w m) × (4 ≤ n → run x y z w m ≡ 4 + m)
    by false y z w m e = (λ h. e, λ h. absurd (omega (arith, e, h)))
    by true false z w m e = (λ h. e, λ h. absurd (omega (arith, e, h)))
    by true true false w m e = (λ h. e, λ h. absurd (omega (arith, e, h)))
    by true true true false m e = (λ h. e, λ h. absurd (omega (arith, e, h)))
    by true true true true m e = (λ h. absurd (omega (arith, e, h)), λ h. omega arith)
