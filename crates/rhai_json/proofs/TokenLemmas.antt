-- Tokens and their bytes are written until one of both lists is at its end.
use Rattle.std.proofs.Common.{◌≡◌, List, [], ◌∷◌, ◌⊎◌, arith, inl, inr, length, refl, zip}
use Rattle.json.specs.Token.{Token}
use Rattle.rhai_json.specs.Fields.{items}

pub all_written : {A B : Type 0} (write : A × B → List Token → List Token) (xs : List A) (ys : List B)
    (ts : List Token) → (length xs ≡ 0) ⊎ (length ys ≡ 0) → items write (zip xs ys) ts ≡ ts
all_written write [] ys ts h = refl
all_written write (x ∷ xs) [] ts h = refl
all_written write (x ∷ xs) (y ∷ ys) ts h =
    elim h [ inl e ↦ absurd (omega arith) | inr e ↦ absurd (omega arith) ]
