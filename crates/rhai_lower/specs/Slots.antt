-- Slots of variables as contracts see them, the oldest first.
use Rattle.std.specs.Prelude.{◌≡◌, ℕ, Bool, true, false, List, [], ◌∷◌, ◌++◌, take, codes, slice_index_or}
use Rattle.std.specs.Prelude.{slice_set, map, Option, Some, None}
use Rattle.std.specs.Prelude.{refl}
use Rattle.std.specs.List.{list_any}
use Rattle.rhai_lower.specs.Texts.{Text, same_text}
use Rattle.rhai_lower.specs.LatestNames.{latest_name}

-- a variable's name, whether it is constant, and the names under which it is exported
pub record SlotValue : Type 0 where
  pub name : Text
  pub constant : Bool
  pub aliases : List Text

-- a slot that is not exported
abbrev pub fresh_slot : Text → Bool → SlotValue
fresh_slot name constant = record { name = name; constant = constant; aliases = [] }

-- the slots with one more
abbrev pub with_slot : List SlotValue → Text → Bool → List SlotValue
with_slot slots name constant = slots ++ fresh_slot name constant ∷ []

-- the slot at an index, which is less than the length
abbrev pub slot_at : List SlotValue → ℕ → SlotValue
slot_at slots index = slice_index_or slots index (fresh_slot [] false)

-- the slots with one of them made constant or variable
abbrev pub with_constant : List SlotValue → ℕ → Bool → List SlotValue
with_constant slots index constant = slice_set slots index (record (slot_at slots index) { constant = constant })

-- the slots with one of them exported under one more name
abbrev pub with_alias : List SlotValue → ℕ → Text → List SlotValue
with_alias slots index alias =
    slice_set slots index (record (slot_at slots index) { aliases = (slot_at slots index).aliases ++ alias ∷ [] })

-- whether a slot has this name
abbrev pub is_declared : Text → List SlotValue → Bool
is_declared name slots = list_any (λ s. same_text s.name name) slots

-- the index of the latest slot of this name, if there is one
abbrev pub latest : Text → List SlotValue → Option ℕ
latest name slots = latest_name name (map (λ s. s.name) slots)

-- A variable `a` and a constant `b`, which is then exported as `c`; a rewind to one slot drops it.
abbrev example_slots : List SlotValue
example_slots = with_alias (with_slot (with_slot [] (codes "a") false) (codes "b") true) 1 (codes "c")

example : (slot_at example_slots 0 ≡ fresh_slot (codes "a") false)
    × ((slot_at example_slots 1).aliases ≡ codes "c" ∷ []) × (is_declared (codes "b") example_slots ≡ true)
    × (is_declared (codes "b") (take 1 example_slots) ≡ false) × (latest (codes "b") example_slots ≡ Some 1)
    × (latest (codes "c") example_slots ≡ None)
unfolding latest_name
example = (refl, refl, refl, refl, refl, refl)
