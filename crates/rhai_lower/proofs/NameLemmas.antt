-- Names in a list, the latest item of each, and an index of them.
use Rattle.std.proofs.Common.{◌≡◌, ℕ, suc, ◌+◌, ◌<◌, Bool, true, false, ◌&&◌, List, [], ◌∷◌, ◌++◌, Option, None, Some, if◌then◌else◌, length, option_map, ap, sym, refl, ◌∙◌, arith, eq-eqb, append_assoc, true≢false}
use Rattle.std.specs.Cmp.Lexicographic as texts
use Rattle.std.specs.Map.{KeepsOthers}
use Rattle.std.specs.Option.{option_or}
use Rattle.std.specs.Rc.{rc_str_bytes}
use Rattle.std.specs.declared.rc.RcStr.{RcStr}
use Rattle.std.specs.declared.alloc.Global.{Global}
use Rattle.indexmap.specs.IndexMap.{IndexMap, UpdatesBy}
use Rattle.rhai_lower.specs.Texts.{Text, same_text}
use Rattle.rhai_lower.specs.NameIndexes.{Indexes, earlier_after, found_in}
use Rattle.rhai_lower.specs.LatestNames.{latest_name}
use Rattle.rhai_lower.specs.declared.name_index.NameIndex.{NameIndex}

same_refl : (t : Text) → same_text t t ≡ true
same_refl [] = refl
same_refl (b ∷ bs) = ap (λ x. x && same_text bs bs) (eq-eqb b b refl) ∙ same_refl bs

equal_texts : (a b : Text) → same_text a b ≡ true → a ≡ b
equal_texts a b e = texts.same_text a b (sym e)

-- ---- a map of places

abbrev pub same_key : RcStr Global → RcStr Global → Bool
same_key a b = same_text (rc_str_bytes a) (rc_str_bytes b)

others : {S : Type 0} (old new : IndexMap (RcStr Global) ℕ S) (name other : Text) → KeepsOthers same_key (λ k. same_text name (rc_str_bytes k)) old.entries new.entries → same_text name other ≡ false → found_in new other ≡ found_in old other
unfolding KeepsOthers
others old new name other keeps differ =
    keeps (λ k. same_text other (rc_str_bytes k))
    (λ x y e. ap (λ t. same_text t (rc_str_bytes y)) (equal_texts other (rc_str_bytes x) e))
    (λ k e. by k (same_text other (rc_str_bytes k)) refl (equal_texts name (rc_str_bytes k) e))
  where
    by : (k : RcStr Global) (b : Bool) → same_text other (rc_str_bytes k) ≡ b → name ≡ rc_str_bytes k → b ≡ false
    by k false e n = refl
    by k true e n =
        let same : other ≡ name = equal_texts other (rc_str_bytes k) e ∙ sym n in
        absurd (true≢false (sym (same_refl name) ∙ (ap (λ t. same_text name t) (sym same) ∙ differ)))

-- after a change at one name
pub placed : {S : Type 0} (old new : IndexMap (RcStr Global) ℕ S) (name : Text) (place : Option ℕ) → UpdatesBy same_key (λ k. same_text name (rc_str_bytes k)) old new place → (other : Text) → found_in new other ≡ (if same_text name other then place else found_in old other)
placed old new name place u other = by (same_text name other) refl
  where
    by : (b : Bool) → same_text name other ≡ b → found_in new other ≡ (if b then place else found_in old other)
    by true e = ap (λ t. found_in new t) (sym (equal_texts name other e)) ∙ u.1
    by false e = others old new name other u.3 e

-- ---- the latest of a name, with one name more

one_further : (b : Bool) (n : ℕ) (o first : Option ℕ) → option_or (option_map (λ i. i + 1) (if b then Some n else o)) first ≡ (if b then Some (suc n) else option_or (option_map (λ i. i + 1) o) first)
one_further true n o first = ap Some (omega arith)
one_further false n o first = refl

pub latest-push : (name : Text) (names : List Text) (n : Text) → latest_name name (names ++ n ∷ []) ≡ (if same_text n name then Some (length names) else latest_name name names)
unfolding latest_name
latest-push name [] n = refl
latest-push name (m ∷ ms) n =
    ap (λ o. option_or (option_map (λ i. i + 1) o) (if same_text m name then Some 0 else None)) (latest-push name ms n)
    ∙ one_further (same_text n name) (length ms) (latest_name name ms) (if same_text m name then Some 0 else None)

pub latest-none : (name : Text) → latest_name name [] ≡ None
unfolding latest_name
latest-none name = refl

append_nil : {A : Type 0} (xs : List A) → xs ++ [] ≡ xs
append_nil [] = refl
append_nil (x ∷ xs) = ap (λ l. x ∷ l) (append_nil xs)

pub earlier-push : (before names : List Text) (n : Text) → earlier_after before (names ++ n ∷ []) ≡ earlier_after before names ++ latest_name n (before ++ names) ∷ []
earlier-push before [] n = ap (λ l. latest_name n l ∷ []) (sym (append_nil before))
earlier-push before (m ∷ ms) n =
    ap (λ l. latest_name m before ∷ l)
    (earlier-push (before ++ m ∷ []) ms n
    ∙ ap (λ l. earlier_after (before ++ m ∷ []) ms ++ latest_name n l ∷ []) (append_assoc before (m ∷ []) ms))

pub length-earlier : (before names : List Text) → length (earlier_after before names) ≡ length names
length-earlier before [] = refl
length-earlier before (m ∷ ms) = ap suc (length-earlier (before ++ m ∷ []) ms)

-- ---- an index, with one name more or less

pub pushed : (old new : NameIndex) (names : List Text) (n : Text) (place : ℕ) → Indexes old names → place ≡ length old.previous.items
    → ((other : Text) → found_in new.latest other ≡ (if same_text n other then Some place else found_in old.latest other))
    → new.previous.items ≡ old.previous.items ++ found_in old.latest n ∷ []
    → Indexes new (names ++ n ∷ [])
pushed old new names n place h p found previous = record {
  found = λ name.
      found name
      ∙ ap (λ o. if same_text n name then Some place else o) (h.found name)
      ∙ ap (λ l. if same_text n name then Some l else latest_name name names) (p ∙ ap length h.earlier ∙ length-earlier [] names)
      ∙ sym (latest-push name names n);
  earlier =
      previous
      ∙ ap (λ l. l ++ found_in old.latest n ∷ []) h.earlier
      ∙ ap (λ o. earlier_after [] names ++ o ∷ []) (h.found n)
      ∙ sym (earlier-push [] names n);
}

-- the place before the latest
last_of : {A : Type 0} (xs ys : List A) (x y : A) → xs ++ x ∷ [] ≡ ys ++ y ∷ [] → (xs ≡ ys) × (x ≡ y)
last_of [] [] x y e = (refl, cc)
last_of [] (z ∷ []) x y e = absurd cc
last_of [] (z ∷ (w ∷ ws)) x y e = absurd cc
last_of (z ∷ []) [] x y e = absurd cc
last_of (z ∷ (w ∷ ws)) [] x y e = absurd cc
last_of (v ∷ vs) (w ∷ ws) x y e =
    let rest : vs ++ x ∷ [] ≡ ws ++ y ∷ [] = cc in
    let r = last_of vs ws x y rest in
    let head : v ≡ w = cc in
    (ap (λ l. v ∷ l) r.0 ∙ ap (λ h. h ∷ ws) head, r.1)

pub last_place : (old new : NameIndex) (names : List Text) (n : Text) (popped : Option ℕ) → Indexes old (names ++ n ∷ []) → old.previous.items ≡ new.previous.items ++ popped ∷ [] → (new.previous.items ≡ earlier_after [] names) × (popped ≡ latest_name n names)
last_place old new names n popped h e = last_of _ _ _ _ (sym e ∙ h.earlier ∙ earlier-push [] names n)

pub found_last : (old : NameIndex) (names : List Text) (n : Text) → Indexes old (names ++ n ∷ []) → found_in old.latest n ≡ Some (length names)
found_last old names n h = h.found n ∙ latest-push n names n ∙ ap (λ b. if b then Some (length names) else latest_name n names) (same_refl n)

pub popped : (old new : NameIndex) (names : List Text) (n : Text) (place : Option ℕ) → Indexes old (names ++ n ∷ [])
    → old.previous.items ≡ new.previous.items ++ place ∷ []
    → ((other : Text) → found_in new.latest other ≡ (if same_text n other then place else found_in old.latest other))
    → Indexes new names
popped old new names n place h e found = record {
  found = λ name.
      found name
      ∙ ap (λ o. if same_text n name then o else found_in old.latest name) (last_place old new names n place h e).1
      ∙ ap (λ o. if same_text n name then latest_name n names else o) (h.found name ∙ latest-push name names n)
      ∙ by name (same_text n name) refl;
  earlier = (last_place old new names n place h e).0;
}
  where
    by : (name : Text) (b : Bool) → same_text n name ≡ b → (if b then latest_name n names else (if b then Some (length names) else latest_name name names)) ≡ latest_name name names
    by name true e = ap (λ t. latest_name t names) (equal_texts n name e)
    by name false e = refl

-- an index of one name more has a place to drop
pub not_empty : (old : NameIndex) (names : List Text) (n : Text) → Indexes old (names ++ n ∷ []) → 0 < length old.previous.items
not_empty old names n h =
    let l = ap length (h.earlier ∙ earlier-push [] names n) in
    by (earlier_after [] names) l
  where
    by : (xs : List (Option ℕ)) → length old.previous.items ≡ length (xs ++ latest_name n names ∷ []) → 0 < length old.previous.items
    by [] e = omega (arith, e)
    by (x ∷ xs) e = omega (arith, e)
