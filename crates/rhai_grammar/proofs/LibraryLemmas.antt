-- The names of closures, and numbered libraries.
use Rattle.std.proofs.Common.{◌≡◌, ◌⊎◌, inl, inr, ℕ, zero, suc, ◌+◌, ◌/◌, ◌%◌, ◌^◌, ◌<◌, cond, Bool, true, false, not}
use Rattle.std.proofs.Common.{nat_lt, nat_eq, ◌&&◌, ◌||◌, List, [], ◌∷◌, ◌++◌, refl, sym, ap, ◌∙◌, subst, arith}
use Rattle.std.proofs.Common.{zero-add, if◌then◌else◌}
use Rattle.std.proofs.lemmas.Bool.{ltb-false, ltb-true}
use Rattle.std.proofs.lemmas.List.{map-append}
use Rattle.std.proofs.lemmas.List.Elements.{Contains-append_cases, Contains-append_right}
use Rattle.std.proofs.lemmas.List.Sums.{sum_by-append}
use Rattle.std.specs.Cmp.Lexicographic as L
use Rattle.std.specs.List.{Contains, list_any}
use Rattle.std.specs.Prelude.{count_by}
use Rattle.rhai_grammar.specs.Prelude.{Text, same_text, closure_name, last_hex_digits, is_new, is_closure, Ended}
use Rattle.rhai_grammar.specs.Prelude.{Library, closure_count, is_function, keys_in, with_ended, IsNumbered}
use Rattle.rhai_grammar.specs.Closures.{hex_digit}
use Rattle.rhai_grammar.specs.Keys.{Key, closures, same_key, same_type}
use Rattle.rhai_grammar.specs.LibraryLaws.{NumbersAreKept}
use Rattle.rhai_grammar.specs.NumberedLibraries.{bearers}
use Rattle.rhai_grammar.proofs.SlotLemmas.{same}

-- ---- names

last_same : (xs ys : List ℕ) (x y : ℕ) → xs ++ x ∷ [] ≡ ys ++ y ∷ [] → (xs ≡ ys) × (x ≡ y)
last_same [] [] x y e = (refl, cc)
last_same [] (b ∷ []) x y e = absurd cc
last_same [] (b ∷ (d ∷ ys)) x y e = absurd cc
last_same (a ∷ []) [] x y e = absurd cc
last_same (a ∷ (d ∷ xs)) [] x y e = absurd cc
last_same (a ∷ xs) (b ∷ ys) x y e =
    let r = last_same xs ys x y (cc) in
    let h : a ≡ b = cc in
    (cc, r.1)

digit_same : (a b : ℕ) → a < 16 → b < 16 → hex_digit a ≡ hex_digit b → a ≡ b
digit_same a b l m e = by (nat_lt a 10) (nat_lt b 10) refl refl e
  where
    by : (c d : Bool) → nat_lt a 10 ≡ c → nat_lt b 10 ≡ d → (if c then 48 + a else 87 + a) ≡ (if d then 48 + b else 87 + b) → a ≡ b
    by true true p q f = omega arith
    by false false p q f = omega arith
    by true false p q f = let h = ltb-true a 10 p in absurd (omega arith)
    by false true p q f = let h = ltb-true b 10 q in absurd (omega arith)

digits_same : (c a b : ℕ) → a < 16 ^ c → b < 16 ^ c → last_hex_digits c a ≡ last_hex_digits c b → a ≡ b
unfolding last_hex_digits
digits_same zero a b l m e = omega arith
digits_same (suc c) a b l m e =
    let r = last_same (last_hex_digits c (a / 16)) (last_hex_digits c (b / 16)) (hex_digit (a % 16)) (hex_digit (b % 16)) e in
    let p : a / 16 ≡ b / 16 = digits_same c (a / 16) (b / 16) (omega arith) (omega arith) r.0 in
    let q : a % 16 ≡ b % 16 = digit_same (a % 16) (b % 16) (omega arith) (omega arith) r.1 in
    omega arith

names_same : (a b : ℕ) → a < 2 ^ 64 → b < 2 ^ 64 → closure_name a ≡ closure_name b → a ≡ b
names_same a b l m e = digits_same 16 a b l m (cc)

-- ---- lists

one_there : (x y : Key) → Contains (x ∷ []) y → x ≡ y
one_there x y (zero, l, e) = e
one_there x y (suc k, l, e) = absurd (omega arith)

contains_first : (x : Key) (xs : List Key) → Contains (x ∷ xs) x
contains_first x xs = (zero, omega arith, refl)

contains_later : (x : Key) (xs : List Key) (y : Key) → Contains xs y → Contains (x ∷ xs) y
contains_later x xs y h = Contains-append_right (x ∷ []) xs y h

-- Where no key passes a test, none is counted and none is found.
none_counted : (p : Key → Bool) (ks : List Key) → ((k : Key) → Contains ks k → p k ≡ false) → count_by p ks ≡ 0
none_counted p [] h = refl
none_counted p (k ∷ ks) h =
    let e = h k (contains_first k ks) in
    let r = none_counted p ks (λ y c. h y (contains_later k ks y c)) in
    sum_by-append (λ x. cond (p x) 1 0) (k ∷ []) ks ∙ ap (λ b. (0 + cond b 1 0) + count_by p ks) e
    ∙ ap (λ n. (0 + 0) + n) r

none_found : (p : Key → Bool) (ks : List Key) → ((k : Key) → Contains ks k → p k ≡ false) → list_any p ks ≡ false
none_found p [] h = refl
none_found p (k ∷ ks) h =
    let e = h k (contains_first k ks) in
    let r = none_found p ks (λ y c. h y (contains_later k ks y c)) in
    ap (λ b. b || list_any p ks) e ∙ r

count_more : (p : Key → Bool) (ks : List Key) (k : Key)
    → count_by p (ks ++ k ∷ []) ≡ count_by p ks + cond (p k) 1 0
count_more p ks k =
    sum_by-append (λ x. cond (p x) 1 0) ks (k ∷ []) ∙ ap (λ n. count_by p ks + n) (zero-add (cond (p k) 1 0))

keys_more : (library : Library) (x : Ended) → keys_in (with_ended library x) ≡ keys_in library ++ x.key ∷ []
keys_more library x = map-append (λ (e : Ended). e.key) library (x ∷ [])

bearers_more : (library : Library) (x : Ended) (n : ℕ)
    → bearers (with_ended library x) n ≡ bearers library n + cond (same_text x.key.name (closure_name n)) 1 0
bearers_more library x n =
    ap (count_by (λ k. same_text k.name (closure_name n))) (keys_more library x)
    ∙ count_more (λ k. same_text k.name (closure_name n)) (keys_in library) x.key

closures_more : (library : Library) (x : Ended)
    → closure_count (with_ended library x) ≡ closure_count library + cond (is_closure x.key) 1 0
closures_more library x = ap closures (keys_more library x) ∙ count_more is_closure (keys_in library) x.key

-- ---- names of closures

is_name_of : (k : Key) (n : ℕ) → k.name ≡ closure_name n → is_closure k ≡ true
is_name_of k n e = ap (λ name. is_closure (record k { name = name })) e

reads_same : (a b : Text) → same_text a b ≡ true → a ≡ b
reads_same a b e = L.same_text a b (sym e)

unlike : (a b : Text) → (a ≡ b → ⊥) → same_text a b ≡ false
unlike a b h = by (same_text a b) refl
  where
    by : (c : Bool) → same_text a b ≡ c → c ≡ false
    by true e = absurd (h (reads_same a b e))
    by false e = refl

-- Of two numbers one of which is below the other, the names differ.
names_differ : (a b : ℕ) → a < b → b < 2 ^ 64 → closure_name a ≡ closure_name b → ⊥
names_differ a b l m e = let h = names_same a b (omega arith) m e in omega arith

-- ---- numbered libraries

-- No function bears the name of the next closure.
next_differs : (library : Library) → IsNumbered library → closure_count library < 2 ^ 64 → (k : Key)
    → Contains (keys_in library) k → k.name ≡ closure_name (closure_count library) → ⊥
next_differs library h l k c e =
    let r = h.below k c (is_name_of k (closure_count library) e) in
    names_differ r.0 (closure_count library) r.1 l (sym r.2 ∙ e)

next_unlike : (library : Library) → IsNumbered library → closure_count library < 2 ^ 64 → (k : Key)
    → Contains (keys_in library) k → same_text k.name (closure_name (closure_count library)) ≡ false
next_unlike library h l k c = unlike k.name (closure_name (closure_count library)) (next_differs library h l k c)

pub next_is_new : (library : Library) → IsNumbered library → closure_count library < 2 ^ 64
    → is_function library (closure_name (closure_count library)) ≡ false
next_is_new library h l =
    none_found (λ k. same_text k.name (closure_name (closure_count library))) (keys_in library) (next_unlike library h l)

and_mid : (a b c : Bool) → b ≡ false → (a && (b && c)) ≡ false
and_mid false b c e = refl
and_mid true false c e = refl
and_mid true true c e = absurd cc

pub key_is_new : (library : Library) (k : Key) → IsNumbered library → closure_count library < 2 ^ 64
    → k.name ≡ closure_name (closure_count library) → is_new k library ≡ true
key_is_new library k h l e =
    ap not (none_found (same_key k) (keys_in library) (λ y c.
    and_mid (same_type k.this_type y.this_type) (same_text k.name y.name) (nat_eq k.params y.params)
    (unlike k.name y.name (λ f. next_differs library h l y c (sym f ∙ e)))))

-- A key is among those of a library, or that of the function after it.
key_among : (library : Library) (x : Ended) (k : Key) → Contains (keys_in (with_ended library x)) k
    → Contains (keys_in library) k ⊎ (x.key ≡ k)
key_among library x k c =
    by (Contains-append_cases (keys_in library) (x.key ∷ []) k (subst (λ ks. Contains ks k) (keys_more library x) c))
  where
    by : Contains (keys_in library) k ⊎ Contains (x.key ∷ []) k → Contains (keys_in library) k ⊎ (x.key ≡ k)
    by (inl h) = inl h
    by (inr h) = inr (one_there x.key k h)

pub closure_added : (library : Library) (x : Ended) → IsNumbered library → closure_count library < 2 ^ 64
    → x.key.name ≡ closure_name (closure_count library) → IsNumbered (with_ended library x)
closure_added library x h l e = record {
  below = λ k c i. below k i (key_among library x k c);
  once = λ m p. once m (nat_lt m n) refl (omega (arith, p, count));
}
  where
    n : ℕ
    n = closure_count library

    count : closure_count (with_ended library x) ≡ n + 1
    count = closures_more library x ∙ ap (λ b. n + cond b 1 0) (is_name_of x.key n e)

    below : (k : Key) → is_closure k ≡ true → Contains (keys_in library) k ⊎ (x.key ≡ k)
        → (m : ℕ) × (m < closure_count (with_ended library x)) × (k.name ≡ closure_name m)
    below k i (inl c) = let r = h.below k c i in (r.0, omega (arith, r.1, count), r.2)
    below k i (inr f) = (n, omega (arith, count), sym (ap (λ (y : Key). y.name) f) ∙ e)

    once : (m : ℕ) (b : Bool) → nat_lt m n ≡ b → m < n + 1 → bearers (with_ended library x) m ≡ 1
    once m true p q =
        let other = unlike x.key.name (closure_name m) (λ f. names_differ m n (ltb-true m n p) l (sym f ∙ e)) in
        bearers_more library x m ∙ ap (λ b. bearers library m + cond b 1 0) other
        ∙ ap (λ j. j + 0) (h.once m (ltb-true m n p))
    once m false p q =
        let is : n ≡ m = omega (arith, q, ltb-false m n p) in
        subst (λ j. bearers (with_ended library x) j ≡ 1) is (
        bearers_more library x n
        ∙ ap (λ j. j + cond (same_text x.key.name (closure_name n)) 1 0)
        (none_counted (λ k. same_text k.name (closure_name n)) (keys_in library) (next_unlike library h l))
        ∙ ap (λ b. 0 + cond b 1 0) (ap (λ name. same_text name (closure_name n)) e ∙ same (closure_name n)))

pub function_added : (library : Library) (x : Ended) → IsNumbered library → is_closure x.key ≡ false
    → IsNumbered (with_ended library x)
function_added library x h e = record {
  below = λ k c i. below k i (key_among library x k c);
  once = λ m p. once m (omega (arith, p, count));
}
  where
    n : ℕ
    n = closure_count library

    count : closure_count (with_ended library x) ≡ n + 0
    count = closures_more library x ∙ ap (λ b. n + cond b 1 0) e

    no_closure : (k : Key) → x.key ≡ k → is_closure k ≡ true → ⊥
    no_closure k f i = let g = ap is_closure f in absurd cc

    below : (k : Key) → is_closure k ≡ true → Contains (keys_in library) k ⊎ (x.key ≡ k)
        → (m : ℕ) × (m < closure_count (with_ended library x)) × (k.name ≡ closure_name m)
    below k i (inl c) = let r = h.below k c i in (r.0, omega (arith, r.1, count), r.2)
    below k i (inr f) = absurd (no_closure k f i)

    once : (m : ℕ) → m < n → bearers (with_ended library x) m ≡ 1
    once m l =
        let other = unlike x.key.name (closure_name m) (λ f. no_closure x.key refl (is_name_of x.key m f)) in
        bearers_more library x m ∙ ap (λ b. bearers library m + cond b 1 0) other ∙ ap (λ j. j + 0) (h.once m l)

pub empty : IsNumbered []
empty = record { below = λ k c i. absurd (omega (arith, c.1)); once = λ n l. absurd (omega (arith, l)) }

pub numbers_are_kept : NumbersAreKept
numbers_are_kept = record {
  names = names_same;
  empty = empty;
  closure = closure_added;
  function = function_added;
  next = next_is_new;
  new = key_is_new;
}
