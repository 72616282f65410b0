-- Parts of a string that do not begin with a sure byte.
use Rattle.std.proofs.Common.{◌≡◌, ℕ, ◌+◌, ◌<◌, ◌≤◌, Bool, true, false, cond, ◌&&◌, ◌||◌, ◌==◌, nat_lt, [], ◌∷◌, ◌++◌, length, take, drop, Option, Some, None, IsUtf8, lit<, refl, sym, ap, ◌∙◌, subst, arith, true≢false, encode_utf8}
use Rattle.std.proofs.lemmas.Bool.{and_parts, and_from, eqb-true, not-true, not-false, ltb-true}
use Rattle.std.proofs.lemmas.Bool.Decides.{nat_tests}
use Rattle.std.proofs.lemmas.List.{take_at}
use Rattle.std.proofs.lemmas.Str.{encode_ascii, IsUtf8-drop, IsCharBoundary-from_rest}
use Rattle.std.specs.List.{concat, list_all}
use Rattle.std.specs.Str.{IsCharBoundary}
use Rattle.rhai_lower.specs.Texts.{Text}
use Rattle.rhai_tokenizer.specs.declared.place.Place.{Place}
use Rattle.rhai_tokenizer.specs.declared.special.Special.{Special}
use Rattle.rhai_tokenizer.specs.declared.special.Special.TheVariants.{Means, Spoils, Stops, Ends}
use Rattle.rhai_tokenizer.specs.declared.special.Special.TheVariants as special
use Rattle.rhai_tokenizer.specs.Bytes.{begins, in_line, is_continuation, is_empty, is_line_feed, spaces}
use Rattle.rhai_tokenizer.specs.Places.{past}
use Rattle.rhai_tokenizer.specs.Runs.{run, run_from}
use Rattle.rhai_tokenizer.specs.Strings.{Part, Plain, LineEnd, Doubled, Cut, Style, Quote, Tick, Apostrophe, Fault, mark_of, escapes, part_letters, is_escape, digits_after, escape_value, part_value, spoiled, fault_at, past_column, continued, character}
use Rattle.rhai_tokenizer.specs.CuttingStrings.{wrong_at, escape_at, doubled_at, part_at, is_sure, cut_special, wrong_special, doubled_special, tick_special}
use Rattle.rhai_tokenizer.specs.StringTurns.{Goes, letters_of}
use Rattle.rhai_tokenizer.proofs.BoundaryLemmas.{before, small, is_small}
use Rattle.rhai_tokenizer.proofs.ByteLemmas.{run_is}
use Rattle.rhai_tokenizer.proofs.PartLemmas.{PartStands}
use Rattle.rhai_tokenizer.proofs.GoesLemmas.{part_front, front_take, front_within, part_goes, take_more, some_letters, no_letters, same_character}

-- ---- parts that do not begin with a sure byte

-- a part that is special, as the code takes it
pub record Special_goes (style : Style) (column : ℕ) (place : Place) (t : Text) (n : ℕ) (value : Text)
    (fault : Option Fault) : Type 0 where
  pub goes : Goes style column place t n value fault
  pub some : 1 ≤ n
  pub boundary : IsUtf8 t → IsCharBoundary t n

-- what is said of each case
abbrev pub IsSpecial : Style → ℕ → Place → Text → Special → Type 0
IsSpecial style column place t (Means n c) = Special_goes style column place t n (encode_utf8 c) None
IsSpecial style column place t (special.Continues n) =
    (IsUtf8 t → IsCharBoundary t n) × Special_goes style column place t
    (n + length (concat (run_from spaces 0 (drop n t))))
    (past_column column (past place (take n t)) (run_from spaces 0 (drop n t))) None
IsSpecial style column place t (Spoils n k b) =
    (IsUtf8 t → IsCharBoundary t k) × (b ≤ length t)
    × Special_goes style column place t n [] (Some (record { text = take k t; place = past place (take b t) }))
IsSpecial style column place t (Stops n) = Special_goes style column place t n [] None
IsSpecial style column place t Ends = part_at style t ≡ None

-- a part of which the value and the fault are known
pub known : (style : Style) (column : ℕ) (place : Place) (t : Text) (p : Part) (n : ℕ) (v : Text) (f : Option Fault)
    → part_at style t ≡ Some p → length (part_letters style p) ≡ n
    → part_value style column place p ≡ v → fault_at place (spoiled p (letters_of style (drop n t))) ≡ f
    → (IsUtf8 t → IsCharBoundary t n) → Special_goes style column place t n v f
known style column place t p n v f h len value fault cut =
    let s = part_front style t p h in
    let some = some_part (part_letters style p) s.some in
    let g : Goes style column place t (length (part_letters style p)) (part_value style column place p)
    (fault_at place (spoiled p (letters_of style (drop (length (part_letters style p)) t)))) = part_goes style
    column place t p h in
    let g' : Goes style column place t n (part_value style column place p)
    (fault_at place (spoiled p (letters_of style (drop n t)))) =
    subst (λ (x : ℕ). Goes style column place t x (part_value style column place p)
    (fault_at place (spoiled p (letters_of style (drop x t))))) len g in
    let g'' : Goes style column place t n v (fault_at place (spoiled p (letters_of style (drop n t)))) = subst
    (λ (x : Text). Goes style column place t n x (fault_at place (spoiled p (letters_of style (drop n t))))) value
    g' in
    record {
      goes = subst (λ (x : Option Fault). Goes style column place t n v x) fault g'';
      some = omega (arith, some, len);
      boundary = cut;
    }
  where
    some_part : (s : Text) → is_empty s ≡ false → 1 ≤ length s
    some_part [] h = absurd (true≢false h)
    some_part (c ∷ s) h = omega arith

-- cut after ASCII bytes, which these are
ascii_cut : (s t : Text) → s ++ drop (length s) t ≡ t → list_all is_small s ≡ true → IsUtf8 t
    → IsCharBoundary t (length s)
ascii_cut s t e a u =
    let b = small s (drop (length s) t) (subst IsUtf8 (sym e) u) a in
    subst (λ (x : Text). IsCharBoundary x (length s)) e b

pub cut_at : (s t : Text) (n : ℕ) → s ++ drop n t ≡ t → length s ≡ n → list_all is_small s ≡ true → IsUtf8 t
    → IsCharBoundary t n
cut_at s t n e len a u = subst (λ (x : ℕ). IsCharBoundary t x) len (ascii_cut s t (ap (λ x. s ++ drop x t) len ∙ e) a u)

pub one_ascii : (c : ℕ) → c < 128 → c ∷ [] ≡ encode_utf8 c
one_ascii c h = sym (encode_ascii c h)

pub doubled_special_is : (style : Style) (column : ℕ) (place : Place) (mark : ℕ) (t : Text) → mark_of style ≡ mark
    → nat_lt mark 128 ≡ true → part_at style (mark ∷ t) ≡ doubled_at mark t
    → IsSpecial style column place (mark ∷ t) (doubled_special mark t)
doubled_special_is style column place mark t m a p = by (begins (λ d. d == mark) t) refl
  where
    front : (t : Text) → begins (λ d. d == mark) t ≡ true → (mark ∷ (mark ∷ [])) ++ drop 2 (mark ∷ t) ≡ mark ∷ t
    front [] e = absurd (true≢false (sym e))
    front (d ∷ t) e = ap (λ x. mark ∷ (x ∷ t)) (sym (eqb-true d mark e))

    by : (b : Bool) → begins (λ d. d == mark) t ≡ b
        → IsSpecial style column place (mark ∷ t) (cond b (Means 2 mark) Ends)
    by true e =
        known style column place (mark ∷ t) Doubled 2 (encode_utf8 mark) None (p ∙ rw e refl) refl (ap (λ x. x ∷ []) m
        ∙ one_ascii mark (ltb-true mark 128 a)) refl
        (cut_at (mark ∷ (mark ∷ [])) (mark ∷ t) 2 (front t e) refl (and_from (nat_lt mark 128) (nat_lt mark 128
        && true) a (and_from (nat_lt mark 128) true a refl)))
    by false e = p ∙ rw e refl

pub tick_special_is : (column : ℕ) (place : Place) (c : ℕ) (t : Text) → is_sure Tick c ≡ false
    → IsSpecial Tick column place (c ∷ t) (tick_special c t)
tick_special_is column place c t h = by (c == 96) (c == 36) (c == 13) refl refl refl (not-false (c == 96
    || (c == 36 || c == 13)) h)
  where
    at : (x : ℕ) → (c == x) ≡ true → IsSpecial Tick column place (x ∷ t) (tick_special x t)
        → IsSpecial Tick column place (c ∷ t) (tick_special c t)
    at x e s = subst (λ (y : ℕ). IsSpecial Tick column place (y ∷ t) (tick_special y t)) (sym (eqb-true c x e)) s

    dollar : (b : Bool) → begins (λ d. d == 123) t ≡ b → IsSpecial Tick column place (36 ∷ t) (cond b Ends (Means 1 36))
    dollar true e = rw e refl
    dollar false e = known Tick column place (36 ∷ t) (Plain 36) 1 (encode_utf8 36) None (rw e refl) refl
        (one_ascii 36 (lit< tt)) refl (cut_at (36 ∷ []) (36 ∷ t) 1 refl refl refl)

    feed_front : (t : Text) → begins is_line_feed t ≡ true → (13 ∷ (10 ∷ [])) ++ drop 2 (13 ∷ t) ≡ 13 ∷ t
    feed_front [] e = absurd (true≢false (sym e))
    feed_front (d ∷ t) e = ap (λ x. 13 ∷ (x ∷ t)) (sym (eqb-true d 10 e))

    return : (b : Bool) → begins is_line_feed t ≡ b
        → IsSpecial Tick column place (13 ∷ t) (cond b (Means 2 10) (Means 1 13))
    return true e = known Tick column place (13 ∷ t) LineEnd 2 (encode_utf8 10) None (rw e refl) refl
        (one_ascii 10 (lit< tt)) refl (cut_at (13 ∷ (10 ∷ [])) (13 ∷ t) 2 (feed_front t e) refl refl)
    return false e = known Tick column place (13 ∷ t) (Plain 13) 1 (encode_utf8 13) None (rw e refl) refl
        (one_ascii 13 (lit< tt)) refl (cut_at (13 ∷ []) (13 ∷ t) 1 refl refl refl)

    by : (a b d : Bool) → (c == 96) ≡ a → (c == 36) ≡ b → (c == 13) ≡ d → (a || (b || d)) ≡ true
        → IsSpecial Tick column place (c ∷ t) (tick_special c t)
    by true b d e f g k = at 96 e (doubled_special_is Tick column place 96 t refl refl refl)
    by false true d e f g k = at 36 f (dollar (begins (λ d. d == 123) t) refl)
    by false false true e f g k = at 13 g (return (begins is_line_feed t) refl)
    by false false false e f g k = absurd (true≢false (sym k))

-- after `\`
is_slashed : (style : Style) (t : Text) → escapes style ≡ true → part_at style (92 ∷ t) ≡ Some (escape_at style t)
is_slashed Quote t x = refl
is_slashed Apostrophe t x = refl
is_slashed Tick t x = absurd (true≢false (sym x))

pub escape_small : (style : Style) (c : ℕ) → is_escape style c ≡ true → (is_small c ≡ true) × (escape_value c < 128)
escape_small Quote c h = (grind (arith, nat_tests), grind (arith, nat_tests))
escape_small Apostrophe c h = (grind (arith, nat_tests), grind (arith, nat_tests))
escape_small Tick c h = (grind (arith, nat_tests), grind (arith, nat_tests))

pub marker_small : (m : ℕ) → nat_lt 0 (digits_after m) ≡ true → is_small m ≡ true
marker_small m h = grind (arith, nat_tests)

marker_few : (m : ℕ) → digits_after m ≤ 8
marker_few m = grind (arith, nat_tests)

stop_cut : (s t : Text) (n : ℕ) → s ++ drop (length s) t ≡ t → length s ≡ n
    → begins is_continuation (drop (length s) t) ≡ false → IsCharBoundary t n
stop_cut s t n e len h = subst (λ (k : ℕ). IsCharBoundary t k) len
    (subst (λ (x : Text). IsCharBoundary x (length s)) e (before s (drop (length s) t) h))

pub wrong_is : (style : Style) (column : ℕ) (place : Place) (c : ℕ) (t : Text) → part_at style (92 ∷ (c ∷ t))
    ≡ Some (wrong_at c t) → IsSpecial style column place (92 ∷ (c ∷ t)) (wrong_special t)
wrong_is style column place c t p =
    let s = part_front style (92 ∷ (c ∷ t)) (wrong_at c t) p in
    let len : length (92 ∷ (c ∷ run is_continuation t)) ≡ 2 + length (run is_continuation t) = omega arith in
    let front : take (2 + length (run is_continuation t)) (92 ∷ (c ∷ t)) ≡ 92 ∷ (c ∷ run is_continuation t) =
    ap (λ n. take n (92 ∷ (c ∷ t))) (sym len) ∙ front_take (92 ∷ (c ∷ run is_continuation t)) (92 ∷ (c ∷ t)) s.split in
    let stop : begins is_continuation (drop (length (run is_continuation t)) t)
    ≡ false = not-true _ (and_parts (list_all is_continuation (run is_continuation t)) _
    (run_is is_continuation t)).1 in
    let cut : IsUtf8 (92 ∷ (c ∷ t)) → IsCharBoundary (92
    ∷ (c ∷ t)) (2 + length (run is_continuation t)) = λ u. stop_cut (92 ∷ (c ∷ run is_continuation t)) (92
    ∷ (c ∷ t)) (2 + length (run is_continuation t)) s.split len stop in (
      cut,
      omega arith,
      known style column place (92 ∷ (c ∷ t)) (wrong_at c t) (2 + length (run is_continuation t)) []
          (Some (record {
            text = take (2 + length (run is_continuation t)) (92 ∷ (c ∷ t));
            place = past place (92
                ∷ []);
          })) p len refl
          (ap (λ x. Some (record { text = x; place = past place (92 ∷ []) })) (sym front)) cut,
    )

-- ---- an escape that is cut

character_front : (t : Text) → character t ++ drop (length (character t)) t ≡ t
character_front [] = refl
character_front (c ∷ t) = by (nat_lt c 128)
  where
    more : (t : Text) → continued t ++ drop (length (continued t)) t ≡ t
    more [] = refl
    more (c ∷ t) = by (is_continuation c) (more t)
      where
        by : (b : Bool) → continued t ++ drop (length (continued t)) t ≡ t → cond b (c ∷ continued t) []
            ++ drop (length (cond b (c ∷ continued t) [])) (c ∷ t) ≡ c ∷ t
        by true ih = ap (λ x. c ∷ x) ih
        by false ih = refl

    by : (b : Bool) → (c ∷ cond b [] (continued t)) ++ drop (length (c ∷ cond b [] (continued t))) (c ∷ t) ≡ c ∷ t
    by true = refl
    by false = ap (λ x. c ∷ x) (more t)

character_stops : (c : ℕ) (t : Text) → nat_lt c 128 ≡ false → begins is_continuation (drop (length (continued t)) t)
    ≡ false
character_stops c [] h = refl
character_stops c (d ∷ t) h = by (is_continuation d) refl (character_stops c t h)
  where
    by : (b : Bool) → is_continuation d ≡ b → begins is_continuation (drop (length (continued t)) t) ≡ false
        → begins is_continuation (drop (length (cond b (d ∷ continued t) [])) (d ∷ t)) ≡ false
    by true e ih = ih
    by false e ih = e

character_cut : (t : Text) → IsUtf8 t → IsCharBoundary t (length (character t))
character_cut [] u = (omega arith, λ within big. absurd (omega arith))
character_cut (c ∷ t) u = by (nat_lt c 128) refl
  where
    by : (b : Bool) → nat_lt c 128 ≡ b → IsCharBoundary (c ∷ t) (length (c ∷ cond b [] (continued t)))
    by true e = ascii_cut (c ∷ []) (c ∷ t) refl (and_from (is_small c) true e refl) u
    by false e =
        let whole : (c ∷ continued t) ++ drop (length (c ∷ continued t)) (c ∷ t) ≡ c
        ∷ t = ap (λ b. (c ∷ cond b [] (continued t))
        ++ drop (length (c ∷ cond b [] (continued t))) (c ∷ t)) (sym e) ∙ character_front (c ∷ t) in
        stop_cut (c ∷ continued t) (c ∷ t) (length (c ∷ continued t)) whole refl (character_stops c t e)

pub cut_is : (style : Style) (column : ℕ) (place : Place) (f t : Text) (n : ℕ) → escapes style ≡ true → part_at style t
    ≡ Some (Cut f) → length (92 ∷ f) ≡ n → list_all is_small (92 ∷ f) ≡ true
    → IsSpecial style column place t (cut_special n (drop n t))
cut_is style column place f t n x p len small = by (begins in_line (drop n t)) refl
  where
    s : PartStands style t (Cut f)
    s = part_front style t (Cut f) p

    within : n ≤ length t
    within = omega (arith, front_within (92 ∷ f) t s.split, len)

    split : (92 ∷ f) ++ drop n t ≡ t
    split = ap (λ k. (92 ∷ f) ++ drop k t) (sym len) ∙ s.split

    front : take n t ≡ 92 ∷ f
    front = ap (λ k. take k t) (sym len) ∙ front_take (92 ∷ f) t s.split

    here : IsUtf8 t → IsCharBoundary t n
    here u = cut_at (92 ∷ f) t n split len small u

    spoils : (b : Bool) → is_empty (letters_of style (drop n t)) ≡ b → b ≡ false
        → character (letters_of style (drop n t)) ≡ character (drop n t)
        → fault_at place (cond b None (Some (92 ∷ (f ++ character (letters_of style (drop n t))), 1 + length f)))
        ≡ Some (record { text = take (n + length (character (drop n t))) t; place = past place (take n t) })
    spoils true e k same = absurd (true≢false k)
    spoils false e k same =
        let more : take (length (character (drop n t))) (drop n t)
        ≡ character (drop n t) = front_take (character (drop n t)) (drop n t) (character_front (drop n t)) in
        let text : 92 ∷ (f ++ character (letters_of style (drop n t))) ≡ take (n + length (character (drop n t))) t =
        ap (λ y. (92 ∷ f) ++ y) (same ∙ sym more) ∙ (ap (λ y. y
        ++ take (length (character (drop n t))) (drop n t)) (sym front)
        ∙ take_more n (length (character (drop n t))) t within) in
        let one : 1 + length f ≡ length (92 ∷ f) = omega arith in
        let at : take (1 + length f) (92 ∷ (f ++ character (letters_of style (drop n t)))) ≡ take n t =
        ap (λ k. take k (92 ∷ (f ++ character (letters_of style (drop n t))))) one
        ∙ (take_at (92 ∷ f) (character (letters_of style (drop n t))) (length (92 ∷ f)) refl ∙ sym front) in
        ap (λ y. Some (record { text = 92 ∷ (f ++ character (letters_of style (drop n t))); place = past place y }))
        at ∙ ap (λ y. Some (record { text = y; place = past place (take n t) })) text

    stops : is_empty (letters_of style (drop n t)) ≡ true
        → fault_at place (spoiled (Cut f) (letters_of style (drop n t))) ≡ None
    stops e = rw e refl

    by : (b : Bool) → begins in_line (drop n t) ≡ b
        → IsSpecial style column place t (cond b (Spoils n (n + length (character (drop n t))) n) (Stops n))
    by true e =
        let some = some_letters style (drop n t) x e in (
          λ u. IsCharBoundary-from_rest t n (length (character (drop n t))) within
              (character_cut (drop n t) (IsUtf8-drop t n u (here u))),
          within,
          known style column place t (Cut f) n [] (Some
              (record { text = take (n + length (character (drop n t))) t; place = past place (take n t) })) p len refl
              (spoils (is_empty (letters_of style (drop n t))) refl some (same_character style (drop n t) some)) here,
        )
    by false e = known style column place t (Cut f) n [] None p len refl
        (stops (ap is_empty (no_letters style (drop n t) x e))) here
