-- The names that a closure captures, where they are used.
use Rattle.std.specs.Prelude.{◌≡◌, ℕ, Bool, List, [], ◌∷◌, ◌++◌, map, codes, if◌then◌else◌, refl}
use Rattle.rhai_lower.specs.Texts.{Text}
use Rattle.rhai_lower.specs.Positions.{place}
use Rattle.rhai_lower.specs.declared.position.Position.{Position}
use Rattle.rhai_grammar.specs.Imports.{is_among}

-- a name where it is used
pub record Use : Type 0 where
  pub name : Text
  pub at : Position

abbrev pub names_of : List Use → List Text
names_of uses = map (λ u. u.name) uses

-- Uses with one more. Of each name the first use is kept.
abbrev pub with_use : List Use → Use → List Use
with_use uses u = if is_among u.name (names_of uses) then uses else uses ++ u ∷ []

-- the same, if the name is captured
abbrev pub noted : Bool → Use → List Use → List Use
noted captured u uses = if captured then with_use uses u else uses

abbrev example_use : Text → (column : ℕ) → Use
example_use name column = record { name = name; at = place 1 column }

-- `a`, `b` and `a` again
example : with_use (with_use (with_use [] (example_use (codes "a") 1)) (example_use (codes "b") 3))
    (example_use (codes "a") 5) ≡ example_use (codes "a") 1 ∷ example_use (codes "b") 3 ∷ []
example = refl
