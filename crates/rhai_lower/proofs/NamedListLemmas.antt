-- Names of items, and a walk from the latest item to the one that has a name.
use Rattle.std.proofs.Common.{◌≡◌, ◌∙◌, ◌+◌, ◌||◌, ℕ, zero, suc, ◌<◌, Bool, true, false, List, [], ◌∷◌, ◌++◌, Option, None, Some, is_some, if◌then◌else◌, map, option_map, length, get_or, set, take, drop, ap, sym, refl, arith}
use Rattle.std.specs.List.{list_any}
use Rattle.std.specs.Option.{option_or}
use Rattle.rhai_lower.specs.Texts.{Text, same_text}
use Rattle.rhai_lower.specs.LatestNames.{latest_name}

-- a write that leaves the name
pub names-set : {T : Type 0} (text : T → Text) (items : List T) (i : ℕ) (item later : T) → i < length items → item ≡ get_or items i item → text later ≡ text item → map text (set items i later) ≡ map text items
names-set text [] i item later below is same = absurd (omega arith)
names-set text (s ∷ ss) zero item later below is same = ap (λ t. t ∷ map text ss) (same ∙ ap text is)
names-set text (s ∷ ss) (suc i) item later below is same = ap (λ l. text s ∷ l) (names-set text ss i item later (omega arith) is same)

-- one more item
pub names-take : {T : Type 0} (text : T → Text) (items : List T) (i k : ℕ) (item : T) → k ≡ suc i → i < length items → item ≡ get_or items i item → map text (take k items) ≡ map text (take i items) ++ text item ∷ []
names-take {T} text items i k item e below is = ap (λ n. map text (take n items)) e ∙ by items i below is
  where
    by : (items : List T) (i : ℕ) → i < length items → item ≡ get_or items i item → map text (take (suc i) items) ≡ map text (take i items) ++ text item ∷ []
    by [] i below is = absurd (omega arith)
    by (s ∷ ss) zero below is = ap (λ v. text v ∷ []) (sym is)
    by (s ∷ ss) (suc i) below is = ap (λ l. text s ∷ l) (by ss i (omega arith) is)

-- ---- a walk from the latest item

-- the item has another name
pub latest-other : {T : Type 0} (text : T → Text) (name : Text) (items : List T) (i k : ℕ) (item : T) → k ≡ suc i → i < length items → item ≡ get_or items i item → false ≡ same_text (text item) name → latest_name name (map text (drop k items)) ≡ None → latest_name name (map text (drop i items)) ≡ None
unfolding latest_name
latest-other {T} text name items i k item e below is other none = by items i below is (ap (λ n. latest_name name (map text (drop n items))) (sym e) ∙ none)
  where
    by : (items : List T) (i : ℕ) → i < length items → item ≡ get_or items i item → latest_name name (map text (drop (suc i) items)) ≡ None → latest_name name (map text (drop i items)) ≡ None
    by [] i below is none = absurd (omega arith)
    by (s ∷ ss) zero below is none =
        ap (λ o. option_or (option_map (λ i. i + 1) o) (if same_text (text s) name then Some 0 else None)) none
        ∙ ap (λ v. if same_text (text v) name then Some 0 else None) (sym is)
        ∙ ap (λ b. if b then Some 0 else None) (sym other)
    by (s ∷ ss) (suc i) below is none = by ss i (omega arith) is none

-- the item has the name
pub latest-here : {T : Type 0} (text : T → Text) (name : Text) (items : List T) (i k : ℕ) (item : T) → k ≡ suc i → i < length items → item ≡ get_or items i item → true ≡ same_text (text item) name → latest_name name (map text (drop k items)) ≡ None → Some i ≡ latest_name name (map text items)
unfolding latest_name
latest-here {T} text name items i k item e below is here none = by items i below is (ap (λ n. latest_name name (map text (drop n items))) (sym e) ∙ none)
  where
    by : (items : List T) (i : ℕ) → i < length items → item ≡ get_or items i item → latest_name name (map text (drop (suc i) items)) ≡ None → Some i ≡ latest_name name (map text items)
    by [] i below is none = absurd (omega arith)
    by (s ∷ ss) zero below is none =
        sym (ap (λ o. option_or (option_map (λ i. i + 1) o) (if same_text (text s) name then Some 0 else None)) none
        ∙ ap (λ v. if same_text (text v) name then Some 0 else None) (sym is)
        ∙ ap (λ b. if b then Some 0 else None) (sym here))
    by (s ∷ ss) (suc i) below is none =
        let further : suc i ≡ i + 1 = omega arith in
        ap Some further
        ∙ ap (λ o. option_or (option_map (λ i. i + 1) o) (if same_text (text s) name then Some 0 else None)) (by ss i (omega arith) is none)

-- a name has a latest if it is there
pub latest_there : (name : Text) (names : List Text) → is_some (latest_name name names) ≡ list_any (λ n. same_text n name) names
unfolding latest_name
latest_there name [] = refl
latest_there name (n ∷ ns) = by (latest_name name ns) (same_text n name) ∙ ap (λ b. same_text n name || b) (latest_there name ns)
  where
    by : (o : Option ℕ) (b : Bool) → is_some (option_or (option_map (λ i. i + 1) o) (if b then Some 0 else None)) ≡ (b || is_some o)
    by None true = refl
    by None false = refl
    by (Some i) true = refl
    by (Some i) false = refl
