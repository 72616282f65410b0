-- Every piece that fits is read.
use Rattle.std.proofs.Common.{◌≡◌, ℕ, zero, suc, Bool, true, false, not, ◌&&◌, ◌||◌, ◌==◌, nat_le, List, [], ◌∷◌, ◌++◌, length, refl, sym, ap, ◌∙◌, inl, inr, arith, true≢false}
use Rattle.std.proofs.lemmas.Bool.{and_parts, and_from, or_parts, or_cases, not-true, cond-true, false_from_ne_true, eqb-true}
use Rattle.std.proofs.lemmas.Bool.Decides.{nat_tests}
use Rattle.std.specs.Char.{is_ascii_digit}
use Rattle.std.specs.List.{concat, list_all}
use Rattle.rhai_lower.specs.Texts.{Text, same_text}
use Rattle.rhai_lower.specs.Names.{is_word, is_one_of}
use Rattle.rhai_tokenizer.specs.declared.class.First.{First}
use Rattle.rhai_tokenizer.specs.declared.class.First.TheVariants as first
use Rattle.rhai_tokenizer.specs.Bytes.{begins, begins_any, begins_decimal, begins_raw, is_digit_after, is_marker, begins_with, is_empty, is_run, is_run_of, is_letter, is_figure, in_line, is_continuation, blanks}
use Rattle.rhai_tokenizer.specs.Symbols.{symbols, is_longest}
use Rattle.rhai_tokenizer.specs.Strings.{Quote, Tick, Apostrophe, string_letters}
use Rattle.rhai_tokenizer.specs.Pieces.{Piece, Blank, LineComment, BlockComment, Word, Integer, Radix, Symbol, NotIn, Quoted, Character, NoCharacter, Raw, Ticked, Stray, is_later, is_quote, hashes, raw_letters, begins_in, is_part, begins_piece, letters, Fits}
use Rattle.rhai_tokenizer.specs.Runs.{run, run_from}
use Rattle.rhai_tokenizer.specs.Cutting.{piece_at, piece_of, first_class, number_at, stray_at, sign_at}
use Rattle.rhai_tokenizer.specs.Tables.{table_texts}
use Rattle.rhai_tokenizer.specs.CuttingStrings.{ending_after}
use Rattle.rhai_tokenizer.proofs.ByteLemmas.{same_is, at_member, first_of-only, run_again, all_within, begins_one, begins_within}
use Rattle.rhai_tokenizer.proofs.StringLemmas.{string_again}
use Rattle.rhai_tokenizer.proofs.MarkLemmas.{marks_again}
use Rattle.rhai_tokenizer.proofs.RunLemmas.{run_of_again}
use Rattle.rhai_tokenizer.proofs.RawLemmas.{raw_again}
use Rattle.rhai_tokenizer.proofs.TableLemmas.{table_falls, table_is_symbols, symbols_are_table, table_some, is_sign_class, is_alone, slash_alone, star_alone, minus_alone, bang_alone, hash_alone, is_symbol, is_blank_class, blank_classes, blanks_some, blanks_again}
use Rattle.rhai_tokenizer.proofs.FirstLemmas.{ClassFacts, class_facts}
use Rattle.rhai_tokenizer.proofs.PieceLemmas.{figure_digit, sure_symbol, at_byte, never, sign_byte, near_begins}

-- ---- every piece that fits is read

run_tail : (p : ℕ → Bool) (c : ℕ) (t next : Text) → is_run p (c ∷ t) next ≡ true → is_run p t next ≡ true
run_tail p c t next r =
    let (all, stop) = and_parts (p c && list_all p t) (not (begins p next)) r in
    and_from (list_all p t) _ (and_parts (p c) (list_all p t) all).1 stop

digit_no_letter : (c : ℕ) → is_ascii_digit c ≡ true → is_letter c ≡ false
digit_no_letter c h = grind (arith, nat_tests)

number_decimal : (c : ℕ) (u : Text) → ((c == 48 && true) && begins is_marker u) ≡ false → number_at c u
    ≡ Integer false (c ∷ run is_figure u)
number_decimal c [] h = refl
number_decimal c (m ∷ u) h = let e : (c == 48 && is_marker m) ≡ false = by (c == 48) (is_marker m) h in rw e refl
  where
    by : (a b : Bool) → ((a && true) && b) ≡ false → (a && b) ≡ false
    by true b h = h
    by false b h = refl

word_again : (o : Bool) (c : ℕ) (t next : Text) → is_letter c ≡ true → is_run is_word (c ∷ t) next ≡ true
    → piece_at o ((c ∷ t) ++ next) ≡ Word (c ∷ t)
unfolding piece_at
word_again o c t next h r = rw h (ap (λ x. Word (c ∷ x)) (run_again is_word t next (run_tail is_word c t next r)))

integer_again : (o : Bool) (c : ℕ) (t next : Text) → begins_decimal ((c ∷ t) ++ next) ≡ true
    → is_run is_figure (c ∷ t) next ≡ true → piece_at o ((c ∷ t) ++ next) ≡ Integer false (c ∷ t)
unfolding piece_at
integer_again o c t next h r =
    let (digit, never) = and_parts (is_ascii_digit c) _ h in
    rw (digit_no_letter c digit, digit) (number_decimal c (t ++ next) (not-true _ never)
    ∙ ap (λ x. Integer false (c ∷ x)) (run_again is_figure t next (run_tail is_figure c t next r)))

blank_again : (o : Bool) (s : Text) (ss : List Text) (next : Text) → is_run_of blanks (s ∷ ss) next ≡ true
    → is_empty s ≡ false → piece_at o ((s ++ concat ss) ++ next) ≡ Blank (s ∷ ss)
unfolding piece_at
blank_again o [] ss next r h = absurd (true≢false h)
blank_again o (c ∷ s) ss next r h =
    let (all, stop) = and_parts (is_one_of blanks (c ∷ s)
    && list_all (is_one_of blanks) ss) (not (begins_any blanks next)) r in
    let (m, more) = and_parts (is_one_of blanks (c ∷ s)) (list_all (is_one_of blanks) ss) all in
    let kind : is_blank_class (first_class c) ≡ true = at_member (begins (λ d. is_blank_class (first_class d))) blanks
    (c ∷ s) m blank_classes in
    let again = run_of_again blanks blanks_some blanks_again ((c ∷ s) ∷ ss) next r in
    let found : begins_any blanks (c ∷ ((s ++ concat ss) ++ next)) ≡ true = begins_any_longer m in
    by (first_class c) kind again found
  where
    begins_any_longer : is_one_of blanks (c ∷ s) ≡ true → begins_any blanks (c ∷ ((s ++ concat ss) ++ next)) ≡ true
    begins_any_longer m = begins_one blanks (c ∷ s) (c ∷ ((s ++ concat ss) ++ next)) m (longer (c ∷ s) (concat ss) next)
      where
        same : (a : ℕ) → (a == a) ≡ true
        same a = grind (arith, nat_tests)

        longer : (s t u : Text) → begins_with s ((s ++ t) ++ u) ≡ true
        longer [] t u = refl
        longer (c ∷ s) t u = and_from (c == c) (begins_with s ((s ++ t) ++ u)) (same c) (longer s t u)

    by : (k : First) → is_blank_class k ≡ true → run_from blanks 0 (c ∷ ((s ++ concat ss) ++ next)) ≡ (c ∷ s) ∷ ss
        → begins_any blanks (c ∷ ((s ++ concat ss) ++ next)) ≡ true
        → piece_of k o c ((s ++ concat ss) ++ next) ≡ Blank ((c ∷ s) ∷ ss)
    by first.Space kind again found = ap Blank again
    by first.Far kind again found = cond-true (begins_any blanks (c ∷ ((s ++ concat ss) ++ next))) _ _ found
        ∙ ap Blank again
    by first.Letter kind again found = absurd (true≢false (sym kind))
    by first.Digit kind again found = absurd (true≢false (sym kind))
    by first.Quote kind again found = absurd (true≢false (sym kind))
    by first.Tick kind again found = absurd (true≢false (sym kind))
    by first.Apostrophe kind again found = absurd (true≢false (sym kind))
    by first.Slash kind again found = absurd (true≢false (sym kind))
    by first.Bang kind again found = absurd (true≢false (sym kind))
    by first.Minus kind again found = absurd (true≢false (sym kind))
    by first.Hash kind again found = absurd (true≢false (sym kind))
    by first.Other kind again found = absurd (true≢false (sym kind))

-- a member of the table is the one byte that is part of something, or is not
alone_from : (x : ℕ) (q : Text → Bool) (c : ℕ) (s next : Text) → is_alone x q next (c ∷ s) ≡ true
    → (same_text (c ∷ s) (x ∷ []) && q next) ≡ false → (c == x) ≡ true → q (s ++ next) ≡ false
alone_from x q c s next h part e = elim (or_cases (same_text (c ∷ s) (x ∷ [])) (not (c == x && q (s ++ next))) h) [
  | inl same ↦
      let one : c ∷ s ≡ x ∷ [] = same_is (c ∷ s) (x ∷ []) same in
      let none : s ≡ [] = cc in
      ap (λ y. q (y ++ next)) none ∙ and_other (same_text (c ∷ s) (x ∷ [])) (q next) part same
  | inr other ↦ and_other (c == x) (q (s ++ next)) (not-true _ other) e
]
  where
    and_other : (x y : Bool) → (x && y) ≡ false → x ≡ true → y ≡ false
    and_other true y h e = h
    and_other false y h e = absurd (true≢false (sym e))

or_and : (a b d : Bool) → (a && (b || d)) ≡ false → ((a && b) ≡ false) × ((a && d) ≡ false)
or_and true b d h = or_parts b d h
or_and false b d h = (refl, refl)

parts : (a b d e : Bool) → (a || (b || (d || e))) ≡ false → (a ≡ false) × (b ≡ false) × (d ≡ false) × (e ≡ false)
parts false b d e h = let (x, more) = or_parts b (d || e) h in let (y, z) = or_parts d e more in (refl, x, y, z)
parts true b d e h = absurd (true≢false h)

symbol_again : (o : Bool) (c : ℕ) (s next : Text) → is_one_of symbols (c ∷ s) ≡ true → is_longest symbols (c ∷ s) next
    ≡ true → is_part o (c ∷ s) next ≡ false → piece_at o ((c ∷ s) ++ next) ≡ Symbol (c ∷ s)
unfolding piece_at
symbol_again o c s next m longest part =
    let member : is_one_of table_texts (c ∷ s) ≡ true = at_member (is_one_of table_texts) symbols (c
    ∷ s) m symbols_are_table in
    let longest' : is_longest table_texts (c ∷ s) next
    ≡ true = all_within (λ u. not (begins_with u ((c ∷ s) ++ next))
    || nat_le (length u) (length (c ∷ s))) table_texts symbols table_is_symbols longest in
    let (found, same) = first_of-only table_texts (c ∷ s) next table_falls member longest' in
    let kind : is_sign_class (first_class c) ≡ true = sign_byte c (s ++ next) found in
    let sign : sign_at c (s ++ next) ≡ Symbol (c ∷ s) = rw found (ap Symbol same) in
    by (first_class c) kind (class_facts c) member sign
  where
    first_parts : (same_text (c ∷ s) (47 ∷ []) && (begins (λ d. d == 47) next || begins (λ d. d == 42) next)) ≡ false
    first_parts = (parts (same_text (c ∷ s) (47 ∷ [])
        && (begins (λ d. d == 47) next || begins (λ d. d == 42) next)) (same_text (c ∷ s) (45 ∷ [])
        && (o && begins_decimal next)) (same_text (c ∷ s) (33 ∷ []) && begins_in next) (same_text (c ∷ s) (35 ∷ [])
        && begins_raw next) part).0

    more : ((same_text (c ∷ s) (45 ∷ []) && (o && begins_decimal next)) ≡ false)
        × ((same_text (c ∷ s) (33 ∷ []) && begins_in next) ≡ false)
        × ((same_text (c ∷ s) (35 ∷ []) && begins_raw next) ≡ false)
    more =
        let r = parts (same_text (c ∷ s) (47 ∷ []) && (begins (λ d. d == 47) next || begins (λ d. d == 42) next))
        (same_text (c ∷ s) (45 ∷ []) && (o && begins_decimal next)) (same_text (c ∷ s) (33 ∷ [])
        && begins_in next) (same_text (c ∷ s) (35 ∷ []) && begins_raw next) part in
        (r.1, r.2, r.3)

    signed : (o : Bool) → (same_text (c ∷ s) (45 ∷ []) && (o && begins_decimal next)) ≡ false
        → is_one_of table_texts (c ∷ s) ≡ true → (c == 45) ≡ true → (o && begins_decimal (s ++ next)) ≡ false
    signed false h member e = refl
    signed true h member e = alone_from 45 begins_decimal c s next
        (at_member (is_alone 45 begins_decimal next) table_texts (c ∷ s) member (minus_alone next)) h e

    by : (k : First) → is_sign_class k ≡ true → ClassFacts c k → is_one_of table_texts (c ∷ s) ≡ true
        → sign_at c (s ++ next) ≡ Symbol (c ∷ s) → piece_of k o c (s ++ next) ≡ Symbol (c ∷ s)
    by first.Slash kind f member sign =
        let (slash, star) = or_and (same_text (c ∷ s) (47 ∷ [])) (begins (λ d. d == 47) next)
        (begins (λ d. d == 42) next) first_parts in
        rw (
          alone_from 47 (begins (λ d. d == 47)) c s next
              (at_member (is_alone 47 (begins (λ d. d == 47)) next) table_texts (c ∷ s) member (slash_alone next))
              slash f,
          alone_from 47 (begins (λ d. d == 42)) c s next
              (at_member (is_alone 47 (begins (λ d. d == 42)) next) table_texts (c ∷ s) member (star_alone next)) star
              f,
        ) sign
    by first.Bang kind f member sign = rw (alone_from 33 begins_in c s next
        (at_member (is_alone 33 begins_in next) table_texts (c ∷ s) member (bang_alone next)) more.1 f) sign
    by first.Minus kind f member sign = rw (signed o more.0 member f) sign
    by first.Hash kind f member sign = rw (alone_from 35 begins_raw c s next
        (at_member (is_alone 35 begins_raw next) table_texts (c ∷ s) member (hash_alone next)) more.2 f) sign
    by first.Other kind f member sign = sign
    by first.Letter kind f member sign = absurd (true≢false (sym kind))
    by first.Digit kind f member sign = absurd (true≢false (sym kind))
    by first.Space kind f member sign = absurd (true≢false (sym kind))
    by first.Far kind f member sign = absurd (true≢false (sym kind))
    by first.Quote kind f member sign = absurd (true≢false (sym kind))
    by first.Tick kind f member sign = absurd (true≢false (sym kind))
    by first.Apostrophe kind f member sign = absurd (true≢false (sym kind))

no_piece : (c : ℕ) (t : Text) → begins_piece (c ∷ t) ≡ false → (is_letter c ≡ false) × (is_ascii_digit c ≡ false)
    × (begins_any blanks (c ∷ t) ≡ false) × (begins_any symbols (c ∷ t) ≡ false) × (is_quote c ≡ false)
no_piece c t none =
    let (letter, more) = or_parts _ _ none in
    let (digit, more') = or_parts _ _ more in
    let (blank, more'') = or_parts _ _ more' in
    let (symbol, quotes) = or_parts _ _ more'' in
    (letter, digit, blank, symbol, quotes)

stray_again : (o : Bool) (c : ℕ) (t next : Text) → begins_piece (c ∷ (t ++ next)) ≡ false
    → is_run is_continuation t next ≡ true → piece_at o ((c ∷ t) ++ next) ≡ Stray c t
unfolding piece_at
stray_again o c t next none r = by (first_class c) (class_facts c)
  where
    stray : stray_at c (t ++ next) ≡ Stray c t
    stray = ap (λ x. Stray c x) (run_again is_continuation t next r)

    f : (is_letter c ≡ false) × (is_ascii_digit c ≡ false) × (begins_any blanks (c ∷ (t ++ next)) ≡ false)
        × (begins_any symbols (c ∷ (t ++ next)) ≡ false) × (is_quote c ≡ false)
    f = no_piece c (t ++ next) none

    no_sign : begins_any table_texts (c ∷ (t ++ next)) ≡ false
    no_sign = false_from_ne_true _ (λ e. true≢false
        (sym (begins_within table_texts symbols (c ∷ (t ++ next)) table_is_symbols e) ∙ f.3))

    quote : (x : ℕ) → (is_quote x ≡ true) → (c == x) ≡ true → ⊥
    quote x q e = true≢false (sym (ap is_quote (eqb-true c x e) ∙ q) ∙ f.4)

    symbol : (x : ℕ) → is_one_of symbols (x ∷ []) ≡ true → (c == x) ≡ true → ⊥
    symbol x m e = true≢false (sym (sure_symbol c (t ++ next) (at_byte c x e m)) ∙ no_sign)

    by : (k : First) → ClassFacts c k → piece_of k o c (t ++ next) ≡ Stray c t
    by first.Letter h = absurd (true≢false (sym h ∙ f.0))
    by first.Digit h = absurd (true≢false (sym h ∙ f.1))
    by first.Space h = absurd (true≢false (sym (near_begins c (t ++ next) h) ∙ f.2))
    by first.Far h = rw f.2 stray
    by first.Quote h = absurd (quote 34 refl h)
    by first.Tick h = absurd (quote 96 refl h)
    by first.Apostrophe h = absurd (quote 39 refl h)
    by first.Slash h = absurd (symbol 47 is_symbol.0 h)
    by first.Bang h = absurd (symbol 33 is_symbol.1 h)
    by first.Minus h = absurd (symbol 45 is_symbol.2 h)
    by first.Hash h = absurd (symbol 35 is_symbol.3 h)
    by first.Other h = rw no_sign stray

symbols_full : (t : Text) → is_one_of symbols t ≡ true → is_empty t ≡ false
symbols_full t m = not-true (is_empty t) (at_member (λ u. not (is_empty u)) table_texts t
    (at_member (is_one_of table_texts) symbols t m symbols_are_table) table_some)

pub piece_again : (o : Bool) (p : Piece) (next : Text) → is_later p ≡ false → Fits o p next
    → piece_at o (letters p ++ next) ≡ p
unfolding piece_at
piece_again o (Blank []) next k (some, r) = absurd (true≢false some)
piece_again o (Blank (s ∷ ss)) next k (some, r) =
    let (all, stop) = and_parts (is_one_of blanks s
    && list_all (is_one_of blanks) ss) (not (begins_any blanks next)) r in
    blank_again o s ss next r (blanks_some s (and_parts (is_one_of blanks s) (list_all (is_one_of blanks) ss) all).0)
piece_again o (LineComment t) next k f = ap LineComment (run_again in_line t next f)
piece_again o (BlockComment ms) next k f = ap BlockComment (marks_again 1 ms next f)
piece_again o (Word []) next k (b, r) = absurd (true≢false (sym b))
piece_again o (Word (c ∷ t)) next k (b, r) = word_again o c t next b r
piece_again o (Integer false []) [] k (b, r, s) = absurd (true≢false (sym b))
piece_again o (Integer false []) (c ∷ next) k (b, r, s) =
    let (digit, never) = and_parts (is_ascii_digit c) _ b in
    absurd (true≢false (sym (figure_digit c digit) ∙ not-true (is_figure c) r))
piece_again o (Integer false (c ∷ t)) next k (b, r, s) = integer_again o c t next b r
piece_again false (Integer true t) next k (b, r, s) = absurd (true≢false s)
piece_again true (Integer true t) next k (b, r, s) = rw b (ap (λ x. Integer true x) (run_again is_figure t next r))
piece_again o (Radix m t) next k (b, r) = rw b (ap (λ x. Radix m x) (run_again (is_digit_after m) t next r))
piece_again o (Symbol []) next k (m, longest, part) = absurd (true≢false (symbols_full [] m))
piece_again o (Symbol (c ∷ t)) next k (m, longest, part) = symbol_again o c t next m longest part
piece_again o NotIn next k f = rw f refl
piece_again o (Quoted ps e) next k f =
    ap (λ x. Quoted x (ending_after Quote x (string_letters Quote ps e ++ next))) (string_again Quote ps e next f).0
    ∙ ap (λ x. Quoted ps x) (string_again Quote ps e next f).1
piece_again o (Character ps e) next k (b, f) =
    rw b (ap (λ x. Character x (ending_after Apostrophe x (string_letters Apostrophe ps e ++ next)))
    (string_again Apostrophe ps e next f).0 ∙ ap (λ x. Character ps x) (string_again Apostrophe ps e next f).1)
piece_again o NoCharacter next k f = refl
piece_again o (Raw zero t closed) next k (some, f) = absurd (omega (arith, some))
piece_again o (Raw (suc n) t closed) next k (some, f) = rw (raw_begins n t closed next) (raw_again n t closed next f)
  where
    raw_begins : (n : ℕ) (t : Text) (closed : Bool) (next : Text)
        → begins_raw ((hashes n ++ (34 ∷ raw_letters (suc n) t closed)) ++ next) ≡ true
    raw_begins n t closed next = longer n (raw_letters (suc n) t closed) next
      where
        longer : (n : ℕ) (u next : Text) → begins_raw ((hashes n ++ (34 ∷ u)) ++ next) ≡ true
        longer zero u next = refl
        longer (suc n) u next = longer n u next
piece_again o (Ticked true ps e) next k f = absurd (true≢false k)
piece_again o (Ticked false ps e) next k f =
    ap (λ x. Ticked false x (ending_after Tick x (string_letters Tick ps e ++ next)))
    (string_again Tick ps e next f).0 ∙ ap (λ x. Ticked false ps x) (string_again Tick ps e next f).1
piece_again o (Stray c t) next k (none, r) = stray_again o c t next none r
