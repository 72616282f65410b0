-- The steps of the search for the most similar name.
use Rattle.std.proofs.Common.{◌≡◌, ◌∙◌, ◌+◌, ◌<◌, ◌≤◌, ℕ, Bool, true, false, true≢false, List, [], ◌∷◌, ◌++◌, Option}
use Rattle.std.proofs.Common.{Some, None}
use Rattle.std.proofs.Common.{ap, arith, get_or, inl, inr, length, map, refl, subst, suc, sym, take, zero}
use Rattle.std.proofs.lemmas.List.{map-append, take-append-le, take_more}
use Rattle.std.proofs.lemmas.List.Elements.{All-push, All-weaker}
use Rattle.std.proofs.lemmas.Option.{slice_get_within}
use Rattle.std.proofs.Math.Seq.{take-append_seam}
use Rattle.std.specs.Borrow.{Bor}
use Rattle.std.specs.List.{All, slice_get}
use Rattle.std.specs.Prelude.{◌⊎◌, MatchOption, if◌then◌else◌, is_some, option_map}
use Rattle.rhai_lower.specs.Texts.{Text}
use Rattle.rhai_report.specs.Similar.{IsMostSimilar, edits, may_be_meant}

-- What is known of the best of some names: it is the most similar one, so many edits away.
abbrev pub IsBest : (name : Text) → List Text → Option Text → (least : ℕ) → Type 0
IsBest name names best least =
    MatchOption best (All (λ o. may_be_meant name o ≡ false) names)
    (λ b. (least ≡ edits name b) × IsMostSimilar name names b)

got_push : (x : Text) (xs : List Text) (k : ℕ) (y : Text) → slice_get xs k ≡ Some y
    → slice_get (xs ++ x ∷ []) k ≡ Some y
got_push x [] k y e = absurd cc
got_push x (z ∷ xs) zero y e = e
got_push x (z ∷ xs) (suc k) y e = got_push x xs k y e

got_last : (x : Text) (xs : List Text) → slice_get (xs ++ x ∷ []) (length xs) ≡ Some x
got_last x [] = refl
got_last x (z ∷ xs) = got_last x xs

-- The best stays, where the next name is no nearer.
stays : (name : Text) (xs : List Text) (x : Text) (best : Option Text) (least : ℕ) → IsBest name xs best least
    → MatchOption best (may_be_meant name x ≡ false) (λ b. may_be_meant name x ≡ true → least ≤ edits name x)
    → IsBest name (xs ++ x ∷ []) best least
stays name xs x None least is far_off = All-push (λ o. may_be_meant name o ≡ false) xs x is far_off
stays name xs x (Some b) least is far_off = (
  is.0,
  record {
    place = is.1.place;
    is = got_push x xs is.1.place b is.1.is;
    meant = is.1.meant;
    nearest = All-push (λ o. may_be_meant name o ≡ true → edits name b ≤ edits name o) xs x is.1.nearest
        (λ m. let h = far_off m in omega (arith, h, is.0));
    first = subst (All (λ o. may_be_meant name o ≡ true → edits name b < edits name o))
        (sym (take-append-le is.1.place xs (x ∷ []) (let h = slice_get_within xs is.1.place b is.1.is in omega arith)))
        is.1.first;
  },
)

-- how far the names before are, where the next one is nearer than the best
farther : (name : Text) (xs : List Text) (best : Option Text) (least near : ℕ) → IsBest name xs best least
    → MatchOption best (Unit {0}) (λ b. near < least)
    → All (λ o. may_be_meant name o ≡ true → near < edits name o) xs
farther name xs None least near is far_off =
    All-weaker (λ o. may_be_meant name o ≡ false) (λ o. may_be_meant name o ≡ true → near < edits name o)
    (λ o f t. absurd (true≢false (sym t ∙ f))) xs is
farther name xs (Some b) least near is far_off =
    All-weaker (λ o. may_be_meant name o ≡ true → edits name b ≤ edits name o)
    (λ o. may_be_meant name o ≡ true → near < edits name o)
    (λ o h t. let g = h t in omega (arith, g, far_off, is.0)) xs is.1.nearest

-- The next name is the best, where it is nearer.
changes : (name : Text) (xs : List Text) (x : Text) (best : Option Text) (least : ℕ) → IsBest name xs best least
    → may_be_meant name x ≡ true → MatchOption best (Unit {0}) (λ b. edits name x < least)
    → IsBest name (xs ++ x ∷ []) (Some x) (edits name x)
changes name xs x best least is meant near =
    let far = farther name xs best least (edits name x) is near in (
      refl,
      record {
        place = length xs;
        is = got_last x xs;
        meant = meant;
        nearest = All-push (λ o. may_be_meant name o ≡ true → edits name x ≤ edits name o) xs x
            (All-weaker (λ o. may_be_meant name o ≡ true → edits name x < edits name o)
            (λ o. may_be_meant name o ≡ true → edits name x ≤ edits name o)
            (λ o h t. let g = h t in omega (arith, g)) xs far) (λ m. omega arith);
        first = subst (All (λ o. may_be_meant name o ≡ true → edits name x < edits name o))
            (sym (take-append_seam xs (x ∷ []))) far;
      },
    )

-- ---- the loop over names

one_more : (names : List (Bor Text)) (i : ℕ) (d : Bor Text) → i < length names
    → map (λ n. n.now) (take (i + 1) names)
    ≡ map (λ n. n.now) (take i names) ++ (let n = get_or names i d in n.now) ∷ []
one_more names i d l =
    ap (map (λ n. n.now)) (take_more names i d l) ∙ map-append (λ n. n.now) (take i names) (get_or names i d ∷ [])

is_not_meant : (b : Bool) (n : ℕ) (o : Option ℕ) → o ≡ (if b then Some n else None) → o ≡ None → b ≡ false
is_not_meant true n o e f = absurd cc
is_not_meant false n o e f = refl

is_meant : (b : Bool) (n m : ℕ) (o : Option ℕ) → o ≡ (if b then Some n else None) → o ≡ Some m → (b ≡ true) × (m ≡ n)
is_meant true n m o e f = (refl, cc)
is_meant false n m o e f = absurd cc

abbrev read : List (Bor Text) → ℕ → Bor Text → Text
read names i d = let n = get_or names i d in n.now

-- what the loop knows of the next name
abbrev IsTold : (name other : Text) → Option ℕ → Type 0
IsTold name other told = told ≡ (if may_be_meant name other then Some (edits name other) else None)

far_by : (name x : Text) (best : Option (Bor Text)) → may_be_meant name x ≡ false
    → (least : ℕ) → MatchOption (option_map (λ n. n.now) best) (may_be_meant name x ≡ false)
    (λ b. may_be_meant name x ≡ true → least ≤ edits name x)
far_by name x None f least = f
far_by name x (Some b) f least = λ t. absurd (true≢false (sym t ∙ f))

pub passes : (name : Text) (names : List (Bor Text)) (i : ℕ) (d : Bor Text) (best : Option (Bor Text)) (least : ℕ)
    (told : Option ℕ) → i < length names
    → IsBest name (map (λ n. n.now) (take i names)) (option_map (λ n. n.now) best) least
    → IsTold name (read names i d) told → told ≡ None
    → IsBest name (map (λ n. n.now) (take (i + 1) names)) (option_map (λ n. n.now) best) least
passes name names i d best least told l is t e =
    subst (λ xs. IsBest name xs (option_map (λ n. n.now) best) least) (sym (one_more names i d l))
    (stays name (map (λ n. n.now) (take i names)) (read names i d) (option_map (λ n. n.now) best) least is
    (far_by name (read names i d) best (is_not_meant _ _ told t e) least))

no_nearer : (name x : Text) (best : Option (Bor Text)) (least : ℕ) → is_some best ≡ true → least ≤ edits name x
    → MatchOption (option_map (λ n. n.now) best) (may_be_meant name x ≡ false)
    (λ b. may_be_meant name x ≡ true → least ≤ edits name x)
no_nearer name x None least f l = absurd (true≢false (sym f))
no_nearer name x (Some b) least f l = λ t. l

pub keeps : (name : Text) (names : List (Bor Text)) (i : ℕ) (d : Bor Text) (best : Option (Bor Text)) (least near : ℕ)
    (told : Option ℕ) → i < length names
    → IsBest name (map (λ n. n.now) (take i names)) (option_map (λ n. n.now) best) least
    → IsTold name (read names i d) told → told ≡ Some near → is_some best ≡ true → least ≤ near
    → IsBest name (map (λ n. n.now) (take (i + 1) names)) (option_map (λ n. n.now) best) least
keeps name names i d best least near told l is t e f less =
    let m = is_meant _ _ near told t e in
    subst (λ xs. IsBest name xs (option_map (λ n. n.now) best) least) (sym (one_more names i d l))
    (stays name (map (λ n. n.now) (take i names)) (read names i d) (option_map (λ n. n.now) best) least is
    (no_nearer name (read names i d) best least f (let e = m.1 in omega (arith, less, e))))

nearer : (best : Option (Bor Text)) (least near : ℕ) → (is_some best ≡ false) ⊎ (near < least)
    → MatchOption (option_map (λ n. n.now) best) (Unit {0}) (λ b. near < least)
nearer None least near h = tt
nearer (Some b) least near h = elim h [ inl e ↦ absurd (true≢false e) | inr l ↦ l ]

pub takes : (name : Text) (names : List (Bor Text)) (i : ℕ) (d : Bor Text) (best : Option (Bor Text)) (least near : ℕ)
    (told : Option ℕ) → i < length names
    → IsBest name (map (λ n. n.now) (take i names)) (option_map (λ n. n.now) best) least
    → IsTold name (read names i d) told → told ≡ Some near → (is_some best ≡ false) ⊎ (near < least)
    → IsBest name (map (λ n. n.now) (take (i + 1) names)) (Some (read names i d)) near
takes name names i d best least near told l is t e less =
    let m = is_meant _ _ near told t e in
    let x = read names i d in
    subst (λ xs. IsBest name xs (Some x) near) (sym (one_more names i d l))
    (subst (λ n. IsBest name (map (λ n. n.now) (take i names) ++ x ∷ []) (Some x) n) (sym m.1)
    (changes name (map (λ n. n.now) (take i names)) x (option_map (λ n. n.now) best) least is m.0
    (subst (λ n. MatchOption (option_map (λ n. n.now) best) (Unit {0}) (λ b. n < least)) m.1
    (nearer best least near less))))

-- the same of what the best became
pub same_best : (name : Text) (xs : List Text) (best after : Option (Bor Text)) (least left : ℕ) → after ≡ best
    → left ≡ least → IsBest name xs (option_map (λ n. n.now) best) least
    → IsBest name xs (option_map (λ n. n.now) after) left
same_best name xs best after least left e f is =
    subst (λ b. IsBest name xs (option_map (λ n. n.now) b) left) (sym e)
    (subst (IsBest name xs (option_map (λ n. n.now) best)) (sym f) is)
