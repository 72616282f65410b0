-- Escapes, as the code finds them.
use Rattle.std.proofs.Common.{◌≡◌, ℕ, ◌+◌, ◌≤◌, Bool, true, false, not, cond, ◌&&◌, ◌||◌, ◌==◌, nat_lt, [], ◌∷◌, ◌++◌, length, take, drop, Some, None, IsUtf8, refl, sym, ap, ◌∙◌, subst, arith, true≢false, encode_utf8}
use Rattle.std.proofs.lemmas.Bool.{and_parts, and_from, eqb-true, not-false, cond-true}
use Rattle.std.proofs.lemmas.List.{drop_at, take_at, length-append, take-append-le}
use Rattle.std.proofs.lemmas.Str.{IsUtf8-append, IsUtf8-from_ascii}
use Rattle.std.specs.List.{concat, list_all}
use Rattle.std.specs.Str.{IsCharBoundary}
use lib.Utf8.{scalar}
use Rattle.rhai_lower.specs.Texts.{Text}
use Rattle.rhai_lower.specs.Names.{is_one_of}
use Rattle.rhai_tokenizer.specs.declared.place.Place.{Place}
use Rattle.rhai_tokenizer.specs.declared.special.Special.{Special}
use Rattle.rhai_tokenizer.specs.declared.special.Special.TheVariants.{Means, Spoils, Stops, Ends}
use Rattle.rhai_tokenizer.specs.declared.special.Special.TheVariants as special
use Rattle.rhai_tokenizer.specs.Bytes.{begins, is_line_feed, spaces}
use Rattle.rhai_tokenizer.specs.Places.{past}
use Rattle.rhai_tokenizer.specs.Runs.{run_from}
use Rattle.rhai_tokenizer.specs.Strings.{Plain, Escaped, Coded, Continues, Cut, Style, Quote, Tick, Apostrophe, mark_of, escapes, line_end, is_escape, digits_after, escape_value, past_column}
use Rattle.rhai_tokenizer.specs.CuttingStrings.{hex_value, hex_run, coded_at, wrong_at, line_at, escape_at, doubled_at, quoted_at, part_at, is_sure, coded_special, cut_special, number_special, wrong_special, line_special, escape_special, doubled_special, quoted_special, special_at}
use Rattle.std.proofs.lemmas.Bool.{eq-eqb}
use Rattle.rhai_tokenizer.proofs.BoundaryLemmas.{small, small_bytes, is_small, whole, digits_small, concat_utf8}
use Rattle.rhai_tokenizer.proofs.RunLemmas.{run_stands}
use Rattle.rhai_tokenizer.proofs.TableLemmas.{spaces_some}
use Rattle.rhai_tokenizer.proofs.PartLemmas.{PartStands, hex_split, hex_all}
use Rattle.rhai_tokenizer.proofs.GoesLemmas.{part_front, front_take, front_within}
use Rattle.rhai_tokenizer.proofs.SpecialLemmas.{Special_goes, IsSpecial, known, cut_at, one_ascii, doubled_special_is, tick_special_is, escape_small, marker_small, wrong_is, cut_is}

-- ---- numbers of characters

coded_is : (style : Style) (column : ℕ) (place : Place) (m : ℕ) (ds t : Text) (k : ℕ) → part_at style (92 ∷ (m ∷ t))
    ≡ Some (Coded m ds) → length ds ≡ k → list_all is_small (92 ∷ (m ∷ ds)) ≡ true
    → IsSpecial style column place (92 ∷ (m ∷ t)) (coded_special k ds)
coded_is style column place m ds t k p len small = by (scalar (hex_value ds)) refl
  where
    s : PartStands style (92 ∷ (m ∷ t)) (Coded m ds)
    s = part_front style (92 ∷ (m ∷ t)) (Coded m ds) p

    two : length (92 ∷ (m ∷ ds)) ≡ 2 + k
    two = omega (arith, len)

    split : (92 ∷ (m ∷ ds)) ++ drop (2 + k) (92 ∷ (m ∷ t)) ≡ 92 ∷ (m ∷ t)
    split = ap (λ n. (92 ∷ (m ∷ ds)) ++ drop n (92 ∷ (m ∷ t))) (sym two) ∙ s.split

    front : take (2 + k) (92 ∷ (m ∷ t)) ≡ 92 ∷ (m ∷ ds)
    front = ap (λ n. take n (92 ∷ (m ∷ t))) (sym two) ∙ front_take (92 ∷ (m ∷ ds)) (92 ∷ (m ∷ t)) s.split

    here : IsUtf8 (92 ∷ (m ∷ t)) → IsCharBoundary (92 ∷ (m ∷ t)) (2 + k)
    here u = cut_at (92 ∷ (m ∷ ds)) (92 ∷ (m ∷ t)) (2 + k) split two small u

    room : 2 + k ≤ length (92 ∷ (m ∷ t))
    room = omega (arith, front_within (92 ∷ (m ∷ ds)) (92 ∷ (m ∷ t)) s.split, two)

    at : take (1 + length ds) (92 ∷ (m ∷ ds)) ≡ take (1 + k) (92 ∷ (m ∷ t))
    at =
        let fits : 1 + k ≤ length (92 ∷ (m ∷ ds)) = omega (arith, two) in
        ap (λ n. take (1 + n) (92 ∷ (m ∷ ds))) len ∙
        (sym (take-append-le (1 + k) (92 ∷ (m ∷ ds)) (drop (2 + k) (92 ∷ (m ∷ t))) fits) ∙ ap (take (1 + k)) split)

    by : (b : Bool) → scalar (hex_value ds) ≡ b → IsSpecial style column place (92
        ∷ (m ∷ t)) (cond b (Means (2 + k) (hex_value ds)) (Spoils (2 + k) (2 + k) (1 + k)))
    by true e = known style column place (92 ∷ (m ∷ t)) (Coded m ds) (2 + k) (encode_utf8 (hex_value ds)) None p two
        (rw e refl) (rw e refl) here
    by false e = (
      here,
      omega (arith, room),
      known style column place (92 ∷ (m ∷ t)) (Coded m ds) (2 + k) []
          (Some (record { text = take (2 + k) (92 ∷ (m ∷ t)); place = past place (take (1 + k) (92 ∷ (m ∷ t))) })) p
          two (rw e refl)
          (rw e (ap (λ y. Some (record { text = 92 ∷ (m ∷ ds); place = past place y })) at
          ∙ ap (λ y. Some (record { text = y; place = past place (take (1 + k) (92 ∷ (m ∷ t))) })) (sym front)))
          here,
    )

number_is : (style : Style) (column : ℕ) (place : Place) (m : ℕ) (t : Text) → escapes style ≡ true
    → nat_lt 0 (digits_after m) ≡ true
    → part_at style (92 ∷ (m ∷ t)) ≡ Some (coded_at m (hex_run (digits_after m) t))
    → IsSpecial style column place (92 ∷ (m ∷ t)) (number_special (digits_after m) t)
number_is style column place m t x some p = by (length (hex_run (digits_after m) t) == digits_after m) refl p
  where
    digits : Text
    digits = hex_run (digits_after m) t

    small : list_all is_small (92 ∷ (m ∷ hex_run (digits_after m) t)) ≡ true
    small = and_from (is_small m) (list_all is_small (hex_run (digits_after m) t)) (marker_small m some)
        (digits_small (hex_run (digits_after m) t) (hex_all (digits_after m) t))

    by : (b : Bool) → (length (hex_run (digits_after m) t) == digits_after m) ≡ b → part_at style (92 ∷ (m ∷ t))
        ≡ Some (cond b (Coded m (hex_run (digits_after m) t)) (Cut (m ∷ hex_run (digits_after m) t)))
        → IsSpecial style column place (92 ∷ (m ∷ t))
        (cond b (coded_special (digits_after m) (hex_run (digits_after m) t))
        (cut_special (2 + length (hex_run (digits_after m) t)) (drop (length (hex_run (digits_after m) t)) t)))
    by true e p = coded_is style column place m (hex_run (digits_after m) t) t (digits_after m) p
        (eqb-true (length (hex_run (digits_after m) t)) (digits_after m) e) small
    by false e p =
        let two : length (92 ∷ (m ∷ hex_run (digits_after m) t))
        ≡ 2 + length (hex_run (digits_after m) t) = omega arith in
        let moved : drop (2 + length (hex_run (digits_after m) t)) (92 ∷ (m ∷ t))
        ≡ drop (length (hex_run (digits_after m) t)) t = ap (λ n. drop n (92 ∷ (m ∷ t))) (sym two) in
        subst (λ (y : Text). IsSpecial style column place (92
        ∷ (m ∷ t)) (cut_special (2 + length (hex_run (digits_after m) t)) y)) moved
        (cut_is style column place (m ∷ hex_run (digits_after m) t) (92
        ∷ (m ∷ t)) (2 + length (hex_run (digits_after m) t)) x p two small)

-- ---- a line that goes on

line_is : (column : ℕ) (place : Place) (returns : Bool) (t : Text) (n : ℕ) → length (92 ∷ line_end returns) ≡ n
    → list_all is_small (92 ∷ line_end returns) ≡ true
    → part_at Quote ((92 ∷ line_end returns) ++ t) ≡ Some (Continues returns (run_from spaces 0 t))
    → IsSpecial Quote column place ((92 ∷ line_end returns) ++ t) (special.Continues n)
line_is column place returns t n len small p =
    let whole_text : Text = (92 ∷ line_end returns) ++ t in
    let rest : drop n ((92 ∷ line_end returns) ++ t) ≡ t = drop_at (92 ∷ line_end returns) t n len in
    let front : take n ((92 ∷ line_end returns) ++ t) ≡ 92
    ∷ line_end returns = take_at (92 ∷ line_end returns) t n len in
    let s = part_front Quote ((92 ∷ line_end returns) ++ t) (Continues returns (run_from spaces 0 t)) p in
    let all : list_all (is_one_of spaces) (run_from spaces 0 t)
    ≡ true = (and_parts (list_all (is_one_of spaces) (run_from spaces 0 t)) _
    (run_stands spaces spaces_some t).1).0 in
    let utf8 : IsUtf8 (92 ∷ (line_end returns ++ concat (run_from spaces 0 t))) = IsUtf8-append (92
    ∷ line_end returns) (concat (run_from spaces 0 t)) (ascii_utf8 (92 ∷ line_end returns) small)
    (concat_utf8 (run_from spaces 0 t) all) in
    let size : length (92 ∷ (line_end returns ++ concat (run_from spaces 0 t)))
    ≡ n + length (concat (run_from spaces 0 t)) = omega (
      arith,
      length-append (92
          ∷ line_end returns) (concat (run_from spaces 0 t)),
      len,
    ) in
    let cut : IsUtf8 ((92 ∷ line_end returns) ++ t)
    → IsCharBoundary ((92 ∷ line_end returns) ++ t) (n + length (concat (run_from spaces 0 t))) =
    λ u. subst (λ (k : ℕ). IsCharBoundary ((92 ∷ line_end returns) ++ t) k) size (whole_cut (92
    ∷ (line_end returns ++ concat (run_from spaces 0 t))) ((92 ∷ line_end returns) ++ t) s.split utf8 u) in
    let done = known Quote column place ((92 ∷ line_end returns)
    ++ t) (Continues returns (run_from spaces 0 t)) (n + length (concat (run_from spaces 0 t)))
    (past_column column (past place (92 ∷ line_end returns)) (run_from spaces 0 t)) None p size refl refl cut in
    let P : Text → Text → Type 0 = λ y z. Special_goes Quote column place ((92 ∷ line_end returns)
    ++ t) (n + length (concat (run_from spaces 0 y))) (past_column column (past place z) (run_from spaces 0 y))
    None in (
      λ u. cut_at (92 ∷ line_end returns) ((92 ∷ line_end returns)
          ++ t) n (ap (λ y. (92 ∷ line_end returns) ++ y) rest) len small u,
      subst (λ (y : Text). P y (take n ((92 ∷ line_end returns) ++ t))) (sym rest)
          (subst (λ (z : Text). P t z) (sym front) done),
    )
  where
    ascii_utf8 : (s : Text) → list_all is_small s ≡ true → IsUtf8 s
    ascii_utf8 s h = IsUtf8-from_ascii s (small_bytes s h)

    whole_cut : (s t : Text) → s ++ drop (length s) t ≡ t → IsUtf8 s → IsUtf8 t → IsCharBoundary t (length s)
    whole_cut s t e v u = subst (λ (x : Text). IsCharBoundary x (length s)) e
        (whole s (drop (length s) t) (subst IsUtf8 (sym e) u) v)

quote_line_is : (column : ℕ) (place : Place) (c : ℕ) (t : Text) → part_at Quote (92 ∷ (c ∷ t))
    ≡ Some (line_at Quote c t) → IsSpecial Quote column place (92 ∷ (c ∷ t)) (line_special Quote c t)
quote_line_is column place c t p = by (is_line_feed c) (c == 13 && begins is_line_feed t) refl refl p
  where
    feed : is_line_feed c ≡ true → part_at Quote (92 ∷ (c ∷ t)) ≡ Some (Continues false (run_from spaces 0 t))
        → IsSpecial Quote column place (92 ∷ (c ∷ t)) (special.Continues 2)
    feed e p =
        let P : ℕ → Type 0 = λ x. part_at Quote (92 ∷ (x ∷ t)) ≡ Some (Continues false (run_from spaces 0 t))
        → IsSpecial Quote column place (92 ∷ (x ∷ t)) (special.Continues 2) in
        subst P (sym (eqb-true c 10 e)) (λ q. line_is column place false t 2 refl refl q) p

    return : (t : Text) → (c == 13 && begins is_line_feed t) ≡ true → part_at Quote (92 ∷ (c ∷ t))
        ≡ Some (Continues true (run_from spaces 0 (drop 1 t)))
        → IsSpecial Quote column place (92 ∷ (c ∷ t)) (special.Continues 3)
    return [] e p = absurd (true≢false (sym (and_parts (c == 13) false e).1))
    return (d ∷ t) e p =
        let (cr, lf) = and_parts (c == 13) (is_line_feed d) e in
        let P : ℕ → ℕ → Type 0 = λ x y. part_at Quote (92 ∷ (x ∷ (y ∷ t)))
        ≡ Some (Continues true (run_from spaces 0 t))
        → IsSpecial Quote column place (92 ∷ (x ∷ (y ∷ t))) (special.Continues 3) in
        subst (λ (x : ℕ). P x d) (sym (eqb-true c 13 cr))
        (subst (λ (y : ℕ). P 13 y) (sym (eqb-true d 10 lf)) (λ q. line_is column place true t 3 refl refl q)) p

    by : (a b : Bool) → is_line_feed c ≡ a → (c == 13 && begins is_line_feed t) ≡ b
        → part_at Quote (92 ∷ (c ∷ t)) ≡ Some (cond a (Continues false (run_from spaces 0 t))
        (cond b (Continues true (run_from spaces 0 (drop 1 t))) (wrong_at c t)))
        → IsSpecial Quote column place (92 ∷ (c ∷ t))
        (cond a (special.Continues 2) (cond b (special.Continues 3) (wrong_special t)))
    by true b e f p = feed e p
    by false true e f p = return t f p
    by false false e f p = wrong_is Quote column place c t p

apostrophe_line_is : (column : ℕ) (place : Place) (c : ℕ) (t : Text) → part_at Apostrophe (92 ∷ (c ∷ t))
    ≡ Some (line_at Apostrophe c t) → IsSpecial Apostrophe column place (92 ∷ (c ∷ t)) (line_special Apostrophe c t)
apostrophe_line_is column place c t p = by (is_line_feed c) refl p
  where
    feed : is_line_feed c ≡ true → part_at Apostrophe (92 ∷ (c ∷ t)) ≡ Some (Cut [])
        → IsSpecial Apostrophe column place (92 ∷ (c ∷ t)) (Stops 1)
    feed e p =
        let P : ℕ → Type 0 = λ x. part_at Apostrophe (92 ∷ (x ∷ t)) ≡ Some (Cut [])
        → IsSpecial Apostrophe column place (92 ∷ (x ∷ t)) (Stops 1) in
        subst P (sym (eqb-true c 10 e)) (λ q. cut_is Apostrophe column place [] (92 ∷ (10 ∷ t)) 1 refl q refl refl) p

    by : (a : Bool) → is_line_feed c ≡ a → part_at Apostrophe (92 ∷ (c ∷ t)) ≡ Some (cond a (Cut []) (wrong_at c t))
        → IsSpecial Apostrophe column place (92 ∷ (c ∷ t)) (cond a (Stops 1) (wrong_special t))
    by true e p = feed e p
    by false e p = wrong_is Apostrophe column place c t p

line_special_is : (style : Style) (column : ℕ) (place : Place) (c : ℕ) (t : Text) → escapes style ≡ true
    → part_at style (92 ∷ (c ∷ t)) ≡ Some (line_at style c t)
    → IsSpecial style column place (92 ∷ (c ∷ t)) (line_special style c t)
line_special_is Quote column place c t x p = quote_line_is column place c t p
line_special_is Apostrophe column place c t x p = apostrophe_line_is column place c t p
line_special_is Tick column place c t x p = absurd (true≢false (sym x))

escape_is : (style : Style) (column : ℕ) (place : Place) (t : Text) → escapes style ≡ true → part_at style (92 ∷ t)
    ≡ Some (escape_at style t) → IsSpecial style column place (92 ∷ t) (escape_special style t)
escape_is style column place [] x p = cut_is style column place [] (92 ∷ []) 1 x p refl refl
escape_is style column place (c ∷ t) x p = by (is_escape style c) (nat_lt 0 (digits_after c)) refl refl p
  where
    by : (a b : Bool) → is_escape style c ≡ a → nat_lt 0 (digits_after c) ≡ b
        → part_at style (92 ∷ (c ∷ t)) ≡ Some (cond a (Escaped c)
        (cond b (coded_at c (hex_run (digits_after c) t)) (line_at style c t)))
        → IsSpecial style column place (92 ∷ (c ∷ t))
        (cond a (Means 2 (escape_value c)) (cond b (number_special (digits_after c) t) (line_special style c t)))
    by true b e f p =
        let (small, value) = escape_small style c e in
        known style column place (92 ∷ (c ∷ t)) (Escaped c) 2 (encode_utf8 (escape_value c)) None p refl
        (one_ascii (escape_value c) value) refl
        (cut_at (92 ∷ (c ∷ [])) (92 ∷ (c ∷ t)) 2 refl refl (and_from (is_small c) true small refl))
    by false true e f p = number_is style column place c t x f p
    by false false e f p = line_special_is style column place c t x p

quoted_is : (style : Style) (column : ℕ) (place : Place) (c : ℕ) (t : Text) → escapes style ≡ true
    → nat_lt (mark_of style) 128 ≡ true → part_at style (c ∷ t) ≡ quoted_at style c t
    → part_at style (mark_of style ∷ t) ≡ doubled_at (mark_of style) t
    → not (c == mark_of style || (c == 92 || is_line_feed c)) ≡ false
    → IsSpecial style column place (c ∷ t) (quoted_special style c t)
quoted_is style column place c t x m p q h = by (c == mark_of style) (c == 92) (is_line_feed c) refl refl refl p
    (not-false (c == mark_of style || (c == 92 || is_line_feed c)) h)
  where
    by : (a b d : Bool) → (c == mark_of style) ≡ a → (c == 92) ≡ b → is_line_feed c ≡ d
        → part_at style (c ∷ t) ≡ cond a (doubled_at (mark_of style) t)
        (cond b (Some (escape_at style t)) (cond d None (Some (Plain c)))) → (a || (b || d)) ≡ true
        → IsSpecial style column place (c ∷ t) (cond a (doubled_special (mark_of style) t)
        (cond b (escape_special style t) Ends))
    by true b d e f g p k =
        subst (λ (y : ℕ). IsSpecial style column place (y ∷ t) (doubled_special (mark_of style) t))
        (sym (eqb-true c (mark_of style) e)) (doubled_special_is style column place (mark_of style) t refl m q)
    by false true d e f g p k =
        let P : ℕ → Type 0 = λ y. part_at style (y ∷ t) ≡ Some (escape_at style t)
        → IsSpecial style column place (y ∷ t) (escape_special style t) in
        subst P (sym (eqb-true c 92 f)) (escape_is style column place t x) p
    by false false true e f g p k = p
    by false false false e f g p k = absurd (true≢false (sym k))

pub special_is : (style : Style) (column : ℕ) (place : Place) (t : Text) → begins (is_sure style) t ≡ false
    → IsSpecial style column place t (special_at style t)
special_is style column place [] h = refl
special_is Quote column place (c ∷ t) h = quoted_is Quote column place c t refl refl refl refl h
special_is Apostrophe column place (c ∷ t) h = quoted_is Apostrophe column place c t refl refl refl refl h
special_is Tick column place (c ∷ t) h = tick_special_is column place c t h

pub number_coded : (n k : ℕ) (t front : Text) (s : Special) → s ≡ coded_special n front → front ≡ take k t → k
    ≡ length (hex_run n t) → k ≡ n → s ≡ number_special n t
number_coded n k t front s e f len same =
    let whole : take (length (hex_run n t)) t ≡ hex_run n t = front_take (hex_run n t) t (hex_split n t) in
    let all : (length (hex_run n t) == n) ≡ true = eq-eqb (length (hex_run n t)) n (sym len ∙ same) in
    e ∙ (ap (coded_special n) (f ∙ (ap (λ x. take x t) len ∙ whole))
    ∙ sym (cond-true (length (hex_run n t) == n) _ _ all))
