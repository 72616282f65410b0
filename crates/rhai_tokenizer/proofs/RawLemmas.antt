-- Raw strings: what is read fits, and what fits is read.
use Rattle.std.proofs.Common.{◌≡◌, ℕ, zero, suc, ◌+◌, ◌<◌, ◌≤◌, take, get_or, Bool, true, false, not, cond, ◌&&◌, ◌||◌, ◌==◌, [], ◌∷◌, ◌++◌, length, drop, refl, sym, ap, ◌∙◌, subst, arith, true≢false, append_assoc}
use Rattle.std.proofs.lemmas.Bool.{and_parts, and_from, eqb-true, not-true, not_from_false}
use Rattle.std.proofs.lemmas.List.{drop_at, drop-drop, drop_more, append-nil, length-append, length-drop}
use Rattle.std.specs.List.{prefix_len}
use Rattle.rhai_lower.specs.Texts.{Text}
use Rattle.rhai_tokenizer.specs.Bytes.{begins_raw, begins_with}
use Rattle.rhai_tokenizer.specs.Pieces.{Piece, Raw, hashes, raw_letters, raw_fits, letters}
use Rattle.rhai_tokenizer.specs.Cutting.{raw_text, raw_closed, raw_of, raw_from}
use Rattle.rhai_tokenizer.proofs.ByteLemmas.{begins_itself, begins_split}

-- what is said of the text that is read
abbrev pub Stretched : ℕ → Text → Text → Bool → Type 0
Stretched n u t closed = (raw_letters n t closed ++ drop (length (raw_letters n t closed)) u ≡ u)
    × (raw_fits n t closed (drop (length (raw_letters n t closed)) u) ≡ true)

stretched : (n : ℕ) (u : Text) → Stretched n u (raw_text n u) (raw_closed n u)
stretched n [] = (refl, refl)
stretched n (c ∷ u) = by (begins_with (34 ∷ hashes n) (c ∷ u)) refl (stretched n u)
  where
    by : (b : Bool) → begins_with (34 ∷ hashes n) (c ∷ u) ≡ b → Stretched n u (raw_text n u) (raw_closed n u)
        → Stretched n (c ∷ u) (cond b [] (c ∷ raw_text n u)) (cond b true (raw_closed n u))
    by true e ih = (begins_split (34 ∷ hashes n) (c ∷ u) e, refl)
    by false e ih = (
      ap (λ x. c ∷ x) ih.0,
      and_from _ _
          (not_from_false _ (ap (λ x. begins_with (34 ∷ hashes n) (c ∷ x)) ih.0 ∙ e)) ih.1,
    )

pub hashes_shift : (n : ℕ) (u : Text) → hashes n ++ (35 ∷ u) ≡ 35 ∷ (hashes n ++ u)
hashes_shift zero u = refl
hashes_shift (suc n) u = ap (λ x. 35 ∷ x) (hashes_shift n u)

drop_both : (s x y : Text) → drop (length (s ++ x)) (s ++ y) ≡ drop (length x) y
drop_both s x y = ap (λ n. drop n (s ++ y)) (length-append s x)
    ∙ (sym (drop-drop (length x) (length s) (s ++ y)) ∙ ap (drop (length x)) (drop_at s y (length s) refl))

pub record RawStands (t : Text) (p : Piece) : Type 0 where
  pub hashes_of : ℕ
  pub text : Text
  pub closed : Bool
  pub is : p ≡ Raw hashes_of text closed
  pub some : 1 ≤ hashes_of
  pub split : letters (Raw hashes_of text closed) ++ drop (length (letters (Raw hashes_of text closed))) t ≡ t
  pub fits : raw_fits hashes_of text closed (drop (length (letters (Raw hashes_of text closed))) t) ≡ true

whole_stands : (n : ℕ) (u : Text) → 1 ≤ n → RawStands (hashes n ++ (34 ∷ u)) (raw_of n u)
whole_stands n u some =
    let s = stretched n u in
    let more : Text = raw_letters n (raw_text n u) (raw_closed n u) in
    let rest : drop (length (hashes n ++ (34 ∷ raw_letters n (raw_text n u) (raw_closed n u)))) (hashes n ++ (34 ∷ u))
    ≡ drop (length (raw_letters n (raw_text n u) (raw_closed n u))) u =
    drop_both (hashes n) (34 ∷ raw_letters n (raw_text n u) (raw_closed n u)) (34 ∷ u) in
    record {
      hashes_of = n;
      text = raw_text n u;
      closed = raw_closed n u;
      is = refl;
      some = some;
      split = ap (λ x. (hashes n ++ (34 ∷ raw_letters n (raw_text n u) (raw_closed n u))) ++ x) rest
          ∙ (append_assoc (hashes n) (34 ∷ raw_letters n (raw_text n u) (raw_closed n u))
          (drop (length (raw_letters n (raw_text n u) (raw_closed n u))) u)
          ∙ ap (λ x. hashes n ++ (34 ∷ x)) s.0);
      fits = ap (raw_fits n (raw_text n u) (raw_closed n u)) rest ∙ s.1;
    }

pub raw_stands : (n : ℕ) (t : Text) → 1 ≤ n → begins_raw t ≡ true → RawStands (hashes n ++ t) (raw_from n t)
raw_stands n [] some h = absurd (true≢false (sym h))
raw_stands n (c ∷ t) some h = by (c == 34) refl h (λ k. raw_stands (suc n) t (omega arith) k)
  where
    by : (b : Bool) → (c == 34) ≡ b → (b || (c == 35 && begins_raw t)) ≡ true
        → (begins_raw t ≡ true → RawStands (hashes (suc n) ++ t) (raw_from (suc n) t))
        → RawStands (hashes n ++ (c ∷ t)) (cond b (raw_of n t) (raw_from (suc n) t))
    by true e h ih = subst (λ (x : ℕ). RawStands (hashes n ++ (x ∷ t)) (raw_of n t)) (sym (eqb-true c 34 e))
        (whole_stands n t some)
    by false e h ih =
        let (hash, more) = and_parts (c == 35) (begins_raw t) h in
        subst (λ (x : ℕ). RawStands (hashes n ++ (x ∷ t)) (raw_from (suc n) t)) (sym (eqb-true c 35 hash))
        (subst (λ (x : Text). RawStands x (raw_from (suc n) t)) (sym (hashes_shift n t)) (ih more))

-- ---- again

pub begins_hashes : (n : ℕ) (u : Text) → begins_raw (hashes n ++ (34 ∷ u)) ≡ true
begins_hashes zero u = refl
begins_hashes (suc n) u = begins_hashes n u

from_hashes : (n m k : ℕ) (u : Text) → n + m ≡ k → raw_from m (hashes n ++ (34 ∷ u)) ≡ raw_of k u
from_hashes zero m k u e = let same : m ≡ k = omega arith in ap (λ x. raw_of x u) same
from_hashes (suc n) m k u e = from_hashes n (suc m) k u (omega arith)

again : (n : ℕ) (t : Text) (closed : Bool) (next : Text) → raw_fits n t closed next ≡ true
    → (raw_text n (raw_letters n t closed ++ next) ≡ t) × (raw_closed n (raw_letters n t closed ++ next) ≡ closed)
again n [] true next h = let e : begins_with (34 ∷ hashes n) (34 ∷ (hashes n ++ next))
    ≡ true = begins_itself (34 ∷ hashes n) next in (rw e refl, rw e refl)
again n [] false [] h = (refl, refl)
again n [] false (c ∷ next) h = absurd (true≢false (sym h))
again n (c ∷ t) closed next h =
    let (never, more) = and_parts (not (begins_with (34 ∷ hashes n) (c ∷ (raw_letters n t closed ++ next))))
    (raw_fits n t closed next) h in
    let e : begins_with (34 ∷ hashes n) (c ∷ (raw_letters n t closed ++ next)) ≡ false = not-true _ never in
    let (text, end) = again n t closed next more in
    (rw e (ap (λ x. c ∷ x) text), rw e end)

pub raw_again : (n : ℕ) (t : Text) (closed : Bool) (next : Text) → raw_fits (suc n) t closed next ≡ true
    → raw_from 1 ((hashes n ++ (34 ∷ raw_letters (suc n) t closed)) ++ next) ≡ Raw (suc n) t closed
raw_again n t closed next h =
    let (text, end) = again (suc n) t closed next h in
    ap (raw_from 1) (append_assoc (hashes n) (34 ∷ raw_letters (suc n) t closed) next)
    ∙ (from_hashes n 1 (suc n) (raw_letters (suc n) t closed ++ next) (omega arith)
    ∙ (ap (λ x. Raw (suc n) x (raw_closed (suc n) (raw_letters (suc n) t closed ++ next))) text
    ∙ ap (λ x. Raw (suc n) t x) end))

-- ---- the code

run_hashes : (t : Text) → take (prefix_len (λ c. c == 35) t) t ≡ hashes (prefix_len (λ c. c == 35) t)
run_hashes [] = refl
run_hashes (c ∷ t) = by (c == 35) refl (run_hashes t)
  where
    by : (b : Bool) → (c == 35) ≡ b → take (prefix_len (λ c. c == 35) t) t ≡ hashes (prefix_len (λ c. c == 35) t)
        → take (cond b (1 + prefix_len (λ c. c == 35) t) 0) (c ∷ t)
        ≡ hashes (cond b (1 + prefix_len (λ c. c == 35) t) 0)
    by true e ih =
        let n : 1 + prefix_len (λ c. c == 35) t ≡ suc (prefix_len (λ c. c == 35) t) = omega arith in
        rw n (ap (λ x. x ∷ take (prefix_len (λ c. c == 35) t) t) (eqb-true c 35 e) ∙ ap (λ x. 35 ∷ x) ih)
    by false e ih = refl

-- after the hashes of a raw string stands its `"`
raw_body : (n k : ℕ) (t : Text) → begins_raw t ≡ true → k ≡ n + prefix_len (λ c. c == 35) t → raw_from n t
    ≡ raw_of k (drop (prefix_len (λ c. c == 35) t + 1) t)
raw_body n k [] h e = absurd (true≢false (sym h))
raw_body n k (c ∷ t) h e = by (c == 34) (c == 35) refl refl h e (λ j. raw_body (suc n) k t j)
  where
    by : (a b : Bool) → (c == 34) ≡ a → (c == 35) ≡ b → (a || (b && begins_raw t)) ≡ true → k
        ≡ n + cond b (1 + prefix_len (λ c. c == 35) t) 0
        → (begins_raw t ≡ true → k ≡ suc n + prefix_len (λ c. c == 35) t → raw_from (suc n) t
        ≡ raw_of k (drop (prefix_len (λ c. c == 35) t + 1) t))
        → cond a (raw_of n t) (raw_from (suc n) t) ≡ raw_of k
        (drop (cond b (1 + prefix_len (λ c. c == 35) t) 0 + 1) (c ∷ t))
    by true true f g h e ih = let bad : 34 ≡ 35 = sym (eqb-true c 34 f) ∙ eqb-true c 35 g in absurd (omega (arith, bad))
    by true false f g h e ih = let same : n ≡ k = omega (arith, e) in ap (λ x. raw_of x t) same
    by false true f g h e ih =
        let m : (1 + prefix_len (λ c. c == 35) t) + 1 ≡ suc (prefix_len (λ c. c == 35) t + 1) = omega arith in
        rw m (ih h (omega (arith, e)))
    by false false f g h e ih = absurd (true≢false (sym h))

pub record RawKnown (t : Text) (n : ℕ) : Type 0 where
  pub is : raw_from 1 (drop 1 t) ≡ raw_of n (drop (n + 1) t)
  pub marks : take n t ≡ hashes n
  pub some : 1 ≤ n
  pub room : n + 1 ≤ length t

raw_room : (t : Text) → begins_raw t ≡ true → prefix_len (λ c. c == 35) t + 1 ≤ length t
raw_room [] h = absurd (true≢false (sym h))
raw_room (c ∷ t) h = by (c == 34) (c == 35) refl refl h (λ j. raw_room t j)
  where
    by : (a b : Bool) → (c == 34) ≡ a → (c == 35) ≡ b → (a || (b && begins_raw t)) ≡ true
        → (begins_raw t ≡ true → prefix_len (λ c. c == 35) t + 1 ≤ length t)
        → cond b (1 + prefix_len (λ c. c == 35) t) 0 + 1 ≤ length (c ∷ t)
    by true true f g h ih = let bad : 34 ≡ 35 = sym (eqb-true c 34 f) ∙ eqb-true c 35 g in absurd (omega (arith, bad))
    by true false f g h ih = omega arith
    by false true f g h ih = let r = ih h in omega (arith, r)
    by false false f g h ih = absurd (true≢false (sym h))

pub raw_known : (t : Text) (n : ℕ) → begins_with (35 ∷ []) t ≡ true → begins_raw (drop 1 t) ≡ true → n
    ≡ prefix_len (λ c. c == 35) t → RawKnown t n
raw_known [] n h r e = absurd (true≢false (sym h))
raw_known (c ∷ t) n h r e =
    let one : (c == 35) ≡ true = (and_parts (c == 35) true h).0 in
    let size : n ≡ 1 + prefix_len (λ c. c == 35) t = e ∙ rw one refl in
    let next : prefix_len (λ c. c == 35) t + 1 ≡ n = omega (arith, size) in
    let more : n + 1 ≡ suc n = omega arith in
    let room = raw_room t r in
    record {
      is = raw_body 1 n t r size ∙ (ap (λ k. raw_of n (drop k t)) next
          ∙ ap (λ k. raw_of n (drop k (c ∷ t))) (sym more));
      marks = ap (λ k. take k (c ∷ t)) e ∙ (run_hashes (c ∷ t) ∙ ap hashes (sym e));
      some = omega (arith, size);
      room = omega (arith, room, size);
    }

pub raw_stops : (n : ℕ) (marks body : Text) (len : ℕ) → marks ≡ hashes n → begins_with (34 ∷ marks) (drop len body)
    ≡ true → raw_text n body ≡ take len body ++ raw_text n (drop len body) → raw_closed n body
    ≡ raw_closed n (drop len body) → (raw_text n body ≡ take len body) × (raw_closed n body ≡ true)
raw_stops n marks body len m h text closed =
    let e : begins_with (34 ∷ hashes n) (drop len body)
    ≡ true = ap (λ x. begins_with (34 ∷ x) (drop len body)) (sym m) ∙ h in
    let at = stop (drop len body) e in
    (text ∙ (ap (λ x. take len body ++ x) at.0 ∙ append-nil (take len body)), closed ∙ at.1)
  where
    stop : (u : Text) → begins_with (34 ∷ hashes n) u ≡ true → (raw_text n u ≡ []) × (raw_closed n u ≡ true)
    stop [] e = absurd (true≢false (sym e))
    stop (c ∷ u) e = (rw e refl, rw e refl)

pub raw_goes : (n : ℕ) (marks body : Text) (len : ℕ) → marks ≡ hashes n → len < length body
    → begins_with (34 ∷ marks) (drop len body) ≡ false → raw_text n body ≡ take len body ++ raw_text n (drop len body)
    → raw_closed n body ≡ raw_closed n (drop len body)
    → (raw_text n body ≡ take (len + 1) body ++ raw_text n (drop (len + 1) body))
    × (raw_closed n body ≡ raw_closed n (drop (len + 1) body))
raw_goes n marks body len m within h text closed =
    let e : begins_with (34 ∷ hashes n) (drop len body)
    ≡ false = ap (λ x. begins_with (34 ∷ x) (drop len body)) (sym m) ∙ h in
    let more = drop_more body len 0 within in
    let at = step (get_or body len 0) (drop (len + 1) body) (ap (begins_with (34 ∷ hashes n)) (sym more) ∙ e) in
    let grown : take len body ++ (get_or body len 0 ∷ []) ≡ take (len + 1) body = take_more body len 0 within in (
      text ∙ (ap (λ x. take len body ++ raw_text n x) more
          ∙ (ap (λ x. take len body ++ x) at.0 ∙ (sym (append_assoc (take len body) (get_or body len 0
          ∷ []) (raw_text n (drop (len + 1) body))) ∙ ap (λ x. x ++ raw_text n (drop (len + 1) body)) grown))),
      closed ∙ (ap (raw_closed n) more ∙ at.1),
    )
  where
    step : (c : ℕ) (u : Text) → begins_with (34 ∷ hashes n) (c ∷ u) ≡ false → (raw_text n (c ∷ u) ≡ c ∷ raw_text n u)
        × (raw_closed n (c ∷ u) ≡ raw_closed n u)
    step c u e = (rw e refl, rw e refl)

    take_more : (xs : Text) (i d : ℕ) → i < length xs → take i xs ++ (get_or xs i d ∷ []) ≡ take (i + 1) xs
    take_more [] i d h = absurd (omega arith)
    take_more (c ∷ xs) zero d h = refl
    take_more (c ∷ xs) (suc i) d h = let n : suc i + 1
        ≡ suc (i + 1) = omega arith in rw n (ap (λ x. c ∷ x) (take_more xs i d (omega arith)))

pub raw_ends : (n : ℕ) (body : Text) (len : ℕ) → length body ≤ len → len ≤ length body → raw_text n body
    ≡ take len body ++ raw_text n (drop len body) → raw_closed n body ≡ raw_closed n (drop len body)
    → (raw_text n body ≡ take len body) × (raw_closed n body ≡ false)
raw_ends n body len a b text closed =
    let none : drop len body ≡ [] = past body len a in (
      text ∙ (ap (λ x. take len body ++ raw_text n x) none ∙ append-nil (take len body)),
      closed
          ∙ ap (raw_closed n) none,
    )
  where
    past : (t : Text) (k : ℕ) → length t ≤ k → drop k t ≡ []
    past [] zero h = refl
    past [] (suc k) h = refl
    past (c ∷ t) zero h = absurd (omega arith)
    past (c ∷ t) (suc k) h = past t k (omega arith)

pub raw_found : (t after body : Text) (n len : ℕ) (closed : Bool) → RawKnown t n → after ≡ drop n t → body
    ≡ drop 1 after → (raw_text n body ≡ take len body) × (raw_closed n body ≡ closed) → len ≤ length body
    → (raw_from 1 (drop 1 t) ≡ Raw n (take len (drop (n + 1) t)) closed) × ((n + 1) + len ≤ length t)
raw_found t after body n len closed k front bs (text, end) within =
    let body_is : body ≡ drop (n + 1) t = bs ∙ (ap (drop 1) front ∙ drop-drop 1 n t) in (
      k.is ∙ (ap (raw_of n) (sym body_is) ∙ (ap (λ x. Raw n x (raw_closed n body)) text
          ∙ (ap (λ x. Raw n (take len body) x) end ∙ ap (λ x. Raw n (take len x) closed) body_is))),
      omega (arith, within, ap length body_is, length-drop (n + 1) t, k.room),
    )
