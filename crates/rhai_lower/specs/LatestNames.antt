-- The latest item of a name in a list. The list goes from the oldest name to the latest.
use Rattle.std.specs.Prelude.{◌≡◌, ℕ, ◌+◌, List, [], ◌∷◌, Option, None, Some, if◌then◌else◌, codes, option_map, refl}
use Rattle.std.specs.Option.{option_or}
use Rattle.rhai_lower.specs.Texts.{Text, same_text}

-- The index of the latest that is this name, counted from 0 at the oldest, if there is one.
unfoldable pub latest_name : Text → List Text → Option ℕ
latest_name name [] = None
latest_name name (n ∷ later) =
    option_or (option_map (λ i. i + 1) (latest_name name later)) (if same_text n name then Some 0 else None)

-- `a`, `b`, and `a` once more
abbrev example_names : List Text
example_names = codes "a" ∷ codes "b" ∷ codes "a" ∷ []

-- The latest `a` is at 2, not at 0; `b` is at 1; there is no `c`.
example : (latest_name (codes "a") example_names ≡ Some 2) × (latest_name (codes "b") example_names ≡ Some 1)
    × (latest_name (codes "c") example_names ≡ None)
unfolding latest_name
example = (refl, refl, refl)
