-- Settings without the flag of the global level.
use Rattle.std.proofs.Common.{◌≡◌, ◌∙◌, ℕ, ap, false, ◌==◌}
use Rattle.std.proofs.lemmas.Nat.{and_assoc, and_or_apart}
use Rattle.std.specs.Int.Bits.{and_zero_r}
use Rattle.std.specs.Int.RustNames.{bit_and, bit_or}

pub below_flags : (before flags : ℕ) → flags ≡ bit_and before 254 → (bit_and flags 1 == 1) ≡ false
below_flags before flags e = ap (λ f. bit_and f 1 == 1) e ∙ ap (λ b. b == 1) (and_assoc 1 before 254 ∙ and_zero_r before)

pub closure_flags : (before flags : ℕ) → flags ≡ bit_or 6 (bit_and before 48) → (bit_and flags 1 == 1) ≡ false
closure_flags before flags e =
    ap (λ f. bit_and f 1 == 1) e
    ∙ ap (λ b. b == 1) (and_or_apart 1 6 (bit_and before 48) (and_assoc 1 before 48 ∙ and_zero_r before))
