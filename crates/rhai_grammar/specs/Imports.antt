-- Which import a module name refers to. Imports are listed from the oldest to the latest; an import's number counts
-- from 1 at the latest.
use Rattle.std.specs.Prelude.{◌≡◌, ℕ, ◌+◌, Bool, List, [], ◌∷◌, Option, None, Some, length, if◌then◌else◌, codes, refl}
use Rattle.std.specs.List.{list_any}
use Rattle.std.specs.Option.{option_or}
use Rattle.rhai_lower.specs.Texts.{Text, same_text}

-- The number of the latest import of this name, if there is one: a later import takes precedence.
unfoldable pub module_number : Text → List Text → Option ℕ
module_number name [] = None
module_number name (imported ∷ later) =
    option_or (module_number name later) (if same_text imported name then Some (length later + 1) else None)

-- A module of this name is among these.
abbrev pub is_among : Text → List Text → Bool
is_among name modules = list_any (λ m. same_text m name) modules

abbrev example_imports : List Text
example_imports = codes "m" ∷ codes "n" ∷ codes "m" ∷ []

-- Of the two imports of `m` the latest counts, `n` is before it, and there is no `k`.
example : (module_number (codes "m") example_imports ≡ Some 1) × (module_number (codes "n") example_imports ≡ Some 2)
    × (module_number (codes "k") example_imports ≡ None)
unfolding module_number
example = (refl, refl, refl)
