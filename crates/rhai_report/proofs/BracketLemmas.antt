-- What the loop over brackets steps by: it goes from the last token to the first.
use Rattle.std.proofs.Common.{◌≡◌, ◌∙◌, ℕ, ◌+◌, ◌-◌, ◌<◌, ◌≤◌, ◌==◌, ◌&&◌, Bool, true, false}
use Rattle.std.proofs.Common.{List, [], ◌∷◌, Some, None, if◌then◌else◌, add-one, ap, arith, drop, drop-cons}
use Rattle.std.proofs.Common.{eq-eqb, get_or, length, map, refl, suc, sym, zero}
use Rattle.std.proofs.lemmas.Bool.{ne_eqb}
use Rattle.std.proofs.lemmas.List.{drop_all}
use Rattle.rhai_lower.specs.declared.stream.Entry.{Entry}
use Rattle.rhai_lower.specs.declared.token.Token.{Token}
use Rattle.rhai_lower.specs.declared.token.Token.TheVariants as token
use Rattle.rhai_report.specs.Brackets.{closed_before, closes, innermost, later_or_first, opens, token_of}

-- the tokens from an entry on
abbrev rest : List Entry → ℕ → List Token
rest xs at = map token_of (drop at xs)

after : (xs : List Entry) (k at : ℕ) (e : Entry) → suc k ≡ at → at ≤ length xs → e ≡ get_or xs k e
    → rest xs k ≡ e.token ∷ rest xs at
after xs k at e s m g =
    let h : k < length xs = omega arith in
    ap (map token_of) (drop-cons xs k e h ∙ ap (λ x. x ∷ drop (suc k) xs) (sym g))
    ∙ ap (λ n. e.token ∷ rest xs n) s

-- The entry before `at` is the first of the rest that begins with it.
begins : (xs : List Entry) (at : ℕ) (e : Entry) → 0 < at → at ≤ length xs
    → e ≡ get_or xs (at - 1) e → rest xs (at - 1) ≡ e.token ∷ rest xs at
begins xs at e p m g = let s : suc (at - 1) ≡ at = omega arith in after xs (at - 1) at e s m g

-- how a token changes the number of brackets that are closed
abbrev changed : Bool → Bool → ℕ → ℕ
changed c o n = if c then n + 1 else (if o then n - 1 else n)

closed_with : (xs : List Entry) (at : ℕ) (e : Entry) → 0 < at → at ≤ length xs
    → e ≡ get_or xs (at - 1) e
    → closed_before (rest xs (at - 1)) ≡ changed (closes e.token) (opens e.token) (closed_before (rest xs at))
unfolding closed_before
closed_with xs at e p m g = ap closed_before (begins xs at e p m g)

pub closed_more : (xs : List Entry) (at : ℕ) (e : Entry) → 0 < at → at ≤ length xs
    → e ≡ get_or xs (at - 1) e → closes e.token ≡ true
    → closed_before (map token_of (drop (at - 1) xs)) ≡ closed_before (map token_of (drop at xs)) + 1
closed_more xs at e p m g c =
    closed_with xs at e p m g ∙ ap (λ b. changed b (opens e.token) (closed_before (rest xs at))) c

closed_no_more : (xs : List Entry) (at : ℕ) (e : Entry) → 0 < at → at ≤ length xs
    → e ≡ get_or xs (at - 1) e → closes e.token ≡ false
    → closed_before (rest xs (at - 1)) ≡ changed false (opens e.token) (closed_before (rest xs at))
closed_no_more xs at e p m g c =
    closed_with xs at e p m g ∙ ap (λ b. changed b (opens e.token) (closed_before (rest xs at))) c

pub closed_less : (xs : List Entry) (at : ℕ) (e : Entry) → 0 < at → at ≤ length xs
    → e ≡ get_or xs (at - 1) e → closes e.token ≡ false → opens e.token ≡ true
    → closed_before (map token_of (drop (at - 1) xs)) ≡ closed_before (map token_of (drop at xs)) - 1
closed_less xs at e p m g c o =
    closed_no_more xs at e p m g c ∙ ap (λ b. changed false b (closed_before (rest xs at))) o

pub closed_same : (xs : List Entry) (at : ℕ) (e : Entry) → 0 < at → at ≤ length xs
    → e ≡ get_or xs (at - 1) e → closes e.token ≡ false → opens e.token ≡ false
    → closed_before (map token_of (drop (at - 1) xs)) ≡ closed_before (map token_of (drop at xs))
closed_same xs at e p m g c o =
    closed_no_more xs at e p m g c ∙ ap (λ b. changed false b (closed_before (rest xs at))) o

-- a token that closes a bracket opens none
pub apart : (t : Token) → closes t ≡ true → opens t ≡ false
apart token.RightBrace c = refl
apart token.RightParen c = refl
apart token.RightBracket c = refl
apart _ c = cc

-- Where nothing that is opened later is open, the entry itself is the innermost one, or none is.
one_more : (xs : List Entry) (at : ℕ) (e : Entry) → 0 < at → at ≤ length xs
    → e ≡ get_or xs (at - 1) e → innermost (rest xs at) ≡ None
    → innermost (rest xs (at - 1)) ≡ later_or_first None (opens e.token && closed_before (rest xs at) == 0)
unfolding innermost
one_more xs at e p m g n =
    ap innermost (begins xs at e p m g)
    ∙ ap (λ o. later_or_first o (opens e.token && closed_before (rest xs at) == 0)) n

pub opens_none : (xs : List Entry) (at : ℕ) (e : Entry) → 0 < at → at ≤ length xs
    → e ≡ get_or xs (at - 1) e → innermost (map token_of (drop at xs)) ≡ None → opens e.token ≡ false
    → innermost (map token_of (drop (at - 1) xs)) ≡ None
unfolding later_or_first
opens_none xs at e p m g n o =
    one_more xs at e p m g n ∙ ap (λ b. later_or_first None (b && closed_before (rest xs at) == 0)) o

pub is_closed : (xs : List Entry) (at : ℕ) (e : Entry) → 0 < at → at ≤ length xs
    → e ≡ get_or xs (at - 1) e → innermost (map token_of (drop at xs)) ≡ None → opens e.token ≡ true
    → (closed_before (map token_of (drop at xs)) ≡ 0 → ⊥)
    → innermost (map token_of (drop (at - 1) xs)) ≡ None
unfolding later_or_first
is_closed xs at e p m g n o z =
    one_more xs at e p m g n ∙ ap (λ b. later_or_first None (b && closed_before (rest xs at) == 0)) o
    ∙ ap (later_or_first None) (ne_eqb (closed_before (rest xs at)) 0 z)

-- where the first of what is left is meant, its index is how many were left out
from_here : (xs : List Entry) (k : ℕ) → k ≤ length xs → innermost (rest xs k) ≡ Some 0
    → innermost (map token_of xs) ≡ Some k
unfolding innermost later_or_first
from_here xs zero m f = f
from_here [] (suc k) m f = absurd (omega arith)
from_here (x ∷ xs) (suc k) m f =
    let l : k ≤ length xs = omega arith in
    ap (λ o. later_or_first o (opens x.token && closed_before (map token_of xs) == 0)) (from_here xs k l f)
    ∙ ap (λ n. Some n) (add-one k)

pub is_open : (xs : List Entry) (at : ℕ) (e : Entry) → 0 < at → at ≤ length xs
    → e ≡ get_or xs (at - 1) e → innermost (map token_of (drop at xs)) ≡ None → opens e.token ≡ true
    → closed_before (map token_of (drop at xs)) ≡ 0 → innermost (map token_of xs) ≡ Some (at - 1)
unfolding later_or_first
is_open xs at e p m g n o z =
    from_here xs (at - 1) (omega arith)
    (one_more xs at e p m g n ∙ ap (λ b. later_or_first None (b && closed_before (rest xs at) == 0)) o
    ∙ ap (later_or_first None) (eq-eqb (closed_before (rest xs at)) 0 z))

pub none_left : (xs : List Entry)
    → (closed_before (map token_of (drop (length xs) xs)) ≡ 0)
    × (innermost (map token_of (drop (length xs) xs)) ≡ None)
unfolding closed_before innermost
none_left xs =
    let e = ap (map token_of) (drop_all (length xs) xs (omega arith)) in
    (ap closed_before e, ap innermost e)
