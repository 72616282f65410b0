-- Lists of slots of the code, and what they represent.
use Rattle.std.proofs.Common.{◌≡◌, ◌∙◌, ◌||◌, ℕ, zero, suc, ◌<◌, List, [], ◌∷◌, is_some, map, length, get_or, set, take, ap, sym, refl, arith}
use Rattle.std.proofs.lemmas.List.{map-set}
use Rattle.std.specs.List.{list_any}
use Rattle.std.specs.Rc.{rc_str_bytes}
use Rattle.rhai_lower.specs.Texts.{Text, same_text}
use Rattle.rhai_lower.proofs.NamedListLemmas.{latest_there}
use Rattle.rhai_lower.specs.SlotView.{slot_of}
use Rattle.rhai_lower.specs.Slots.{SlotValue, slot_at, latest, is_declared}
use Rattle.rhai_lower.specs.declared.scope.Slot.{Slot}

-- the slot at an index
pub slot_at-map : (slots : List Slot) (i : ℕ) (slot : Slot) → i < length slots → slot ≡ get_or slots i slot → slot_at (map slot_of slots) i ≡ slot_of slot
slot_at-map [] i slot below is = absurd (omega arith)
slot_at-map (s ∷ ss) zero slot below is = ap slot_of (sym is)
slot_at-map (s ∷ ss) (suc i) slot below is = slot_at-map ss i slot (omega arith) is

-- a write to the slot at an index, as a change of its value
pub slots-set : (slots : List Slot) (i : ℕ) (slot later : Slot) (change : SlotValue → SlotValue) → i < length slots → slot ≡ get_or slots i slot → slot_of later ≡ change (slot_of slot) → map slot_of (set slots i later) ≡ set (map slot_of slots) i (change (slot_at (map slot_of slots) i))
slots-set slots i slot later change below is changed =
    map-set slot_of slots i later
    ∙ ap (λ v. set (map slot_of slots) i v) (changed ∙ ap change (sym (slot_at-map slots i slot below is)))

-- the oldest slots
pub slots-take : (n : ℕ) (slots : List Slot) → map slot_of (take n slots) ≡ take n (map slot_of slots)
slots-take zero slots = refl
slots-take (suc n) [] = refl
slots-take (suc n) (s ∷ ss) = ap (λ rest. slot_of s ∷ rest) (slots-take n ss)

-- the names are those of the values
pub names-seen : (slots : List Slot) → map (λ (s : SlotValue). s.name) (map slot_of slots) ≡ map (λ s. rc_str_bytes s.name) slots
names-seen [] = refl
names-seen (s ∷ ss) = ap (λ l. rc_str_bytes s.name ∷ l) (names-seen ss)

-- a name has a latest slot if a slot has it
pub latest-declared : (name : Text) (slots : List SlotValue) → is_some (latest name slots) ≡ is_declared name slots
latest-declared name slots = latest_there name (map (λ s. s.name) slots) ∙ by slots
  where
    by : (slots : List SlotValue) → list_any (λ n. same_text n name) (map (λ (s : SlotValue). s.name) slots) ≡ is_declared name slots
    by [] = refl
    by (s ∷ ss) = ap (λ b. same_text s.name name || b) (by ss)
