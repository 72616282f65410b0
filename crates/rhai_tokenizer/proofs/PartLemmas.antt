-- Parts of strings: what is read fits, and what fits is read.
use Rattle.std.proofs.Common.{◌≡◌, ℕ, zero, suc, ◌<◌, ◌≤◌, Bool, true, false, not, cond, ◌&&◌, ◌||◌, ◌==◌, nat_lt, [], ◌∷◌, ◌++◌, length, drop, Option, Some, None, refl, sym, ap, ◌∙◌, subst, arith, true≢false}
use Rattle.std.proofs.lemmas.Bool.{and_parts, and_from, or_parts, or_from, eqb-true, lt-ltb, ltb-true, not-true, not-false, not_from_false, cond_both}
use Rattle.std.proofs.lemmas.Bool.Decides.{nat_tests}
use Rattle.std.specs.Char.{is_ascii_hexdigit}
use Rattle.std.specs.List.{list_all}
use Rattle.rhai_lower.specs.Texts.{Text}
use Rattle.rhai_tokenizer.specs.Bytes.{begins, in_line, is_continuation, is_empty, is_line_feed, is_run, spaces}
use Rattle.rhai_tokenizer.specs.Strings.{Part, Plain, LineEnd, Escaped, Coded, Doubled, Continues, Wrong, Cut, Style, Quote, Tick, Apostrophe, mark_of, escapes, part_letters, is_escape, digits_after, is_line_end, may_escape, part_fits}
use Rattle.rhai_tokenizer.specs.Runs.{run_from}
use Rattle.rhai_tokenizer.specs.CuttingStrings.{hex_run, coded_at, wrong_at, line_at, escape_at, doubled_at, quoted_at, part_at}
use Rattle.rhai_tokenizer.proofs.ByteLemmas.{run_split, run_is, run_again}
use Rattle.rhai_tokenizer.proofs.RunLemmas.{run_stands, run_of_again}
use Rattle.rhai_tokenizer.proofs.TableLemmas.{spaces_some, spaces_again}

-- ---- digits

pub hex_split : (n : ℕ) (t : Text) → hex_run n t ++ drop (length (hex_run n t)) t ≡ t
hex_split zero t = refl
hex_split (suc n) [] = refl
hex_split (suc n) (c ∷ t) = by (is_ascii_hexdigit c) (hex_split n t)
  where
    by : (b : Bool) → hex_run n t ++ drop (length (hex_run n t)) t ≡ t → cond b (c ∷ hex_run n t) []
        ++ drop (length (cond b (c ∷ hex_run n t) [])) (c ∷ t) ≡ c ∷ t
    by true ih = ap (λ x. c ∷ x) ih
    by false ih = refl

pub hex_all : (n : ℕ) (t : Text) → list_all is_ascii_hexdigit (hex_run n t) ≡ true
hex_all zero t = refl
hex_all (suc n) [] = refl
hex_all (suc n) (c ∷ t) = by (is_ascii_hexdigit c) refl (hex_all n t)
  where
    by : (b : Bool) → is_ascii_hexdigit c ≡ b → list_all is_ascii_hexdigit (hex_run n t) ≡ true
        → list_all is_ascii_hexdigit (cond b (c ∷ hex_run n t) []) ≡ true
    by true e ih = and_from (is_ascii_hexdigit c) (list_all is_ascii_hexdigit (hex_run n t)) e ih
    by false e ih = refl

pub hex_few : (n : ℕ) (t : Text) → length (hex_run n t) ≤ n
hex_few zero t = omega arith
hex_few (suc n) [] = omega arith
hex_few (suc n) (c ∷ t) = by (is_ascii_hexdigit c) (hex_few n t)
  where
    by : (b : Bool) → length (hex_run n t) ≤ n → length (cond b (c ∷ hex_run n t) []) ≤ suc n
    by true ih = omega (arith, ih)
    by false ih = omega arith

hex_stops : (n : ℕ) (t : Text) → length (hex_run n t) < n → begins is_ascii_hexdigit (drop (length (hex_run n t)) t)
    ≡ false
hex_stops zero t h = absurd (omega arith)
hex_stops (suc n) [] h = refl
hex_stops (suc n) (c ∷ t) h = by (is_ascii_hexdigit c) refl h (λ k. hex_stops n t k)
  where
    by : (b : Bool) → is_ascii_hexdigit c ≡ b → length (cond b (c ∷ hex_run n t) []) < suc n
        → (length (hex_run n t) < n → begins is_ascii_hexdigit (drop (length (hex_run n t)) t) ≡ false)
        → begins is_ascii_hexdigit (drop (length (cond b (c ∷ hex_run n t) [])) (c ∷ t)) ≡ false
    by true e h ih = ih (omega (arith, h))
    by false e h ih = e

-- as many as there may be
hex_again : (digits next : Text) (n : ℕ) → list_all is_ascii_hexdigit digits ≡ true → length digits ≡ n
    → hex_run n (digits ++ next) ≡ digits
hex_again [] next zero a h = refl
hex_again [] next (suc n) a h = absurd (omega (arith, h))
hex_again (c ∷ ds) next zero a h = absurd (omega (arith, h))
hex_again (c ∷ ds) next (suc n) a h =
    let (here, more) = and_parts (is_ascii_hexdigit c) (list_all is_ascii_hexdigit ds) a in
    rw here (ap (λ x. c ∷ x) (hex_again ds next n more (omega (arith, h))))

-- or fewer, before what is none
hex_short : (digits next : Text) (n : ℕ) → list_all is_ascii_hexdigit digits ≡ true → length digits ≤ n
    → begins is_ascii_hexdigit next ≡ false → hex_run n (digits ++ next) ≡ digits
hex_short [] [] zero a h s = refl
hex_short [] [] (suc n) a h s = refl
hex_short [] (d ∷ next) zero a h s = refl
hex_short [] (d ∷ next) (suc n) a h s = rw s refl
hex_short (c ∷ ds) next zero a h s = absurd (omega (arith, h))
hex_short (c ∷ ds) next (suc n) a h s =
    let (here, more) = and_parts (is_ascii_hexdigit c) (list_all is_ascii_hexdigit ds) a in
    rw here (ap (λ x. c ∷ x) (hex_short ds next n more (omega (arith, h)) s))

-- ---- a part that is read fits

-- what is said of a part at the front of a text
pub record PartStands (style : Style) (t : Text) (p : Part) : Type 0 where
  pub split : part_letters style p ++ drop (length (part_letters style p)) t ≡ t
  pub fits : part_fits style p (drop (length (part_letters style p)) t) ≡ true
  pub some : is_empty (part_letters style p) ≡ false

abbrev pub Stand : Style → Text → Option Part → Type 0
Stand style t None = Unit {0}
Stand style t (Some p) = PartStands style t p

not_equal : (a b : ℕ) → (a == b) ≡ false → a ≤ b → nat_lt a b ≡ true
not_equal a b e h = lt-ltb a b (less a b e h)
  where
    less : (a b : ℕ) → (a == b) ≡ false → a ≤ b → a < b
    less a b e h = grind (arith, nat_tests)

coded_stands : (style : Style) → escapes style ≡ true → (m : ℕ) (t : Text) → nat_lt 0 (digits_after m) ≡ true
    → PartStands style (92 ∷ (m ∷ t)) (coded_at m (hex_run (digits_after m) t))
coded_stands style x m t some =
    cond_both (length (hex_run (digits_after m) t) == digits_after m) _ _ (PartStands style (92 ∷ (m ∷ t)))
    (λ e. record {
      split = ap (λ x. 92 ∷ (m ∷ x)) (hex_split (digits_after m) t);
      fits = and_from (escapes style) _ x (and_from _ _ (and_from _ _ some e) (hex_all (digits_after m) t));
      some = refl;
    })
    (λ e.
    let less = not_equal (length (hex_run (digits_after m) t)) (digits_after m) e (hex_few (digits_after m) t) in
    record {
      split = ap (λ x. 92 ∷ (m ∷ x)) (hex_split (digits_after m) t);
      fits = and_from (escapes style) _ x (and_from _ _ less (and_from _ _ (hex_all (digits_after m) t)
          (not_from_false _ (hex_stops (digits_after m) t
          (ltb-true (length (hex_run (digits_after m) t)) (digits_after m) less)))));
      some = refl;
    })

wrong_stands : (style : Style) → escapes style ≡ true → (c : ℕ) (t : Text) → may_escape style (c ∷ t) ≡ false
    → PartStands style (92 ∷ (c ∷ t)) (wrong_at c t)
wrong_stands style x c t h = record {
  split = ap (λ y. 92 ∷ (c ∷ y)) (run_split is_continuation t);
  fits = and_from (escapes style) _ x (and_from _ _
      (not_from_false _ (ap (λ y. may_escape style (c ∷ y)) (run_split is_continuation t) ∙ h))
      (run_is is_continuation t));
  some = refl;
}

feed_stands : (c : ℕ) (t : Text) → is_line_feed c ≡ true
    → PartStands Quote (92 ∷ (c ∷ t)) (Continues false (run_from spaces 0 t))
feed_stands c t e =
    let r = run_stands spaces spaces_some t in
    subst (λ (x : ℕ). PartStands Quote (92 ∷ (x ∷ t)) (Continues false (run_from spaces 0 t))) (sym (eqb-true c 10 e))
    (record { split = ap (λ x. 92 ∷ (10 ∷ x)) r.0; fits = r.1; some = refl })

return_stands : (c : ℕ) (t : Text) → (c == 13 && begins is_line_feed t) ≡ true
    → PartStands Quote (92 ∷ (c ∷ t)) (Continues true (run_from spaces 0 (drop 1 t)))
return_stands c [] e = absurd (true≢false (sym (and_parts (c == 13) false e).1))
return_stands c (d ∷ t) e =
    let (cr, lf) = and_parts (c == 13) (is_line_feed d) e in
    let r = run_stands spaces spaces_some t in
    subst (λ (x : ℕ). PartStands Quote (92 ∷ (x ∷ (d ∷ t))) (Continues true (run_from spaces 0 t)))
    (sym (eqb-true c 13 cr))
    (subst (λ (x : ℕ). PartStands Quote (92 ∷ (13 ∷ (x ∷ t))) (Continues true (run_from spaces 0 t)))
    (sym (eqb-true d 10 lf))
    (record { split = ap (λ x. 92 ∷ (13 ∷ (10 ∷ x))) r.0; fits = r.1; some = refl }))

line_stands : (style : Style) → escapes style ≡ true → (c : ℕ) (t : Text) → is_escape style c ≡ false
    → nat_lt 0 (digits_after c) ≡ false → PartStands style (92 ∷ (c ∷ t)) (line_at style c t)
line_stands Quote x c t none few =
    cond_both (is_line_feed c) _ _ (PartStands Quote (92 ∷ (c ∷ t))) (feed_stands c t) (λ feed.
    cond_both (c == 13 && begins is_line_feed t) _ _ (PartStands Quote (92 ∷ (c ∷ t))) (return_stands c t) (λ return.
    wrong_stands Quote x c t (or_from _ _ none (or_from _ _ few (or_from _ _ feed return)))))
line_stands Apostrophe x c t none few =
    cond_both (is_line_feed c) _ _ (PartStands Apostrophe (92 ∷ (c ∷ t)))
    (λ e. record { split = refl; fits = rw e refl; some = refl }) (λ feed.
    wrong_stands Apostrophe x c t (or_from _ _ none (or_from _ _ few feed)))
line_stands Tick x c t none few = absurd (true≢false (sym x))

escape_stands : (style : Style) → escapes style ≡ true → (t : Text) → PartStands style (92 ∷ t) (escape_at style t)
escape_stands Quote x [] = record { split = refl; fits = refl; some = refl }
escape_stands Apostrophe x [] = record { split = refl; fits = refl; some = refl }
escape_stands Tick x [] = absurd (true≢false (sym x))
escape_stands style x (m ∷ t) =
    cond_both (is_escape style m) _ _ (PartStands style (92 ∷ (m ∷ t)))
    (λ e. record { split = refl; fits = and_from (escapes style) _ x e; some = refl }) (λ none.
    cond_both (nat_lt 0 (digits_after m)) _ _ (PartStands style (92 ∷ (m ∷ t))) (coded_stands style x m t)
    (λ few. line_stands style x m t none few))

doubled_stands : (style : Style) (t : Text) → Stand style (mark_of style ∷ t) (doubled_at (mark_of style) t)
doubled_stands style [] = tt
doubled_stands style (c ∷ t) =
    cond_both (c == mark_of style) _ _ (Stand style (mark_of style ∷ (c ∷ t)))
    (λ e. record {
      split = ap (λ x. mark_of style ∷ (x ∷ t)) (sym (eqb-true c (mark_of style) e));
      fits = refl;
      some = refl;
    }) (λ e. tt)

plain_fits : (style : Style) → escapes style ≡ true → (c : ℕ) (next : Text) → (c == mark_of style) ≡ false → (c == 92)
    ≡ false → is_line_feed c ≡ false → part_fits style (Plain c) next ≡ true
plain_fits Quote x c next quote slash line = not_from_false _ (or_from _ _ quote (or_from _ _ slash line))
plain_fits Apostrophe x c next quote slash line = not_from_false _ (or_from _ _ quote (or_from _ _ slash line))
plain_fits Tick x c next quote slash line = absurd (true≢false (sym x))

quoted_stands : (style : Style) → escapes style ≡ true → (c : ℕ) (t : Text) → Stand style (c ∷ t) (quoted_at style c t)
quoted_stands style x c t =
    cond_both (c == mark_of style) _ _ (Stand style (c ∷ t))
    (λ e. subst (λ (y : ℕ). Stand style (y ∷ t) (doubled_at (mark_of style) t))
    (sym (eqb-true c (mark_of style) e)) (doubled_stands style t)) (λ quote.
    cond_both (c == 92) _ _ (Stand style (c ∷ t)) (λ e. subst (λ (y : ℕ). Stand style (y
    ∷ t) (Some (escape_at style t))) (sym (eqb-true c 92 e)) (escape_stands style x t)) (λ slash.
    cond_both (is_line_feed c) _ _ (Stand style (c ∷ t)) (λ e. tt) (λ line.
    record { split = refl; fits = plain_fits style x c t quote slash line; some = refl })))

line_end_stands : (c : ℕ) (t : Text) → (c == 13 && begins is_line_feed t) ≡ true → PartStands Tick (c ∷ t) LineEnd
line_end_stands c [] e = absurd (true≢false (sym (and_parts (c == 13) false e).1))
line_end_stands c (d ∷ t) e =
    let (cr, lf) = and_parts (c == 13) (is_line_feed d) e in
    record {
      split = ap (λ x. x ∷ (10 ∷ t)) (sym (eqb-true c 13 cr))
          ∙ ap (λ x. c ∷ (x ∷ t)) (sym (eqb-true d 10 lf));
      fits = refl;
      some = refl;
    }

pub part_stands : (style : Style) (t : Text) → Stand style t (part_at style t)
part_stands style [] = tt
part_stands Quote (c ∷ t) = quoted_stands Quote refl c t
part_stands Apostrophe (c ∷ t) = quoted_stands Apostrophe refl c t
part_stands Tick (c ∷ t) =
    cond_both (c == 96) _ _ (Stand Tick (c ∷ t)) (λ e. subst (λ (x : ℕ). Stand Tick (x ∷ t) (doubled_at 96 t))
    (sym (eqb-true c 96 e)) (doubled_stands Tick t)) (λ tick.
    cond_both (c == 36 && begins (λ d. d == 123) t) _ _ (Stand Tick (c ∷ t)) (λ e. tt) (λ dollar.
    cond_both (c == 13 && begins is_line_feed t) _ _ (Stand Tick (c ∷ t)) (line_end_stands c t) (λ return.
    record { split = refl; fits = not_from_false _ (or_from _ _ tick (or_from _ _ dollar return)); some = refl })))

-- ---- a part that fits is read

no_escape_quote : (m : ℕ) → nat_lt 0 (digits_after m) ≡ true → is_escape Quote m ≡ false
no_escape_quote m h = grind (arith, nat_tests)

no_escape_apostrophe : (m : ℕ) → nat_lt 0 (digits_after m) ≡ true → is_escape Apostrophe m ≡ false
no_escape_apostrophe m h = grind (arith, nat_tests)

is_some : (n m : ℕ) → nat_lt n m ≡ true → nat_lt 0 m ≡ true
is_some n m h = let l = ltb-true n m h in lt-ltb 0 m (omega (arith, l))

is_less : (n m : ℕ) → nat_lt n m ≡ true → (n == m) ≡ false
is_less n m h = grind (arith, nat_tests)

pub line_ended : (c : ℕ) → not (in_line c) ≡ true → c ≡ 10
line_ended c h = eqb-true c 10 (not-false (is_line_feed c) (not-true (not (is_line_feed c)) h))

pub part_again : (style : Style) (p : Part) (next : Text) → part_fits style p next ≡ true
    → part_at style (part_letters style p ++ next) ≡ Some p
part_again Quote (Plain c) next h =
    let (quote, more) = or_parts (c == 34) (c == 92
    || is_line_feed c) (not-true (c == 34 || (c == 92 || is_line_feed c)) h) in
    let (slash, line) = or_parts (c == 92) (is_line_feed c) more in
    rw (quote, slash, line) refl
part_again Quote LineEnd next h = absurd (true≢false (sym h))
part_again Quote (Escaped c) next h = rw h refl
part_again Quote (Coded m ds) next h =
    let (wants, all) = and_parts (nat_lt 0 (digits_after m)
    && length ds == digits_after m) (list_all is_ascii_hexdigit ds) h in
    let (some, len) = and_parts (nat_lt 0 (digits_after m)) (length ds == digits_after m) wants in
    let same : hex_run (digits_after m) (ds ++ next)
    ≡ ds = hex_again ds next (digits_after m) all (eqb-true (length ds) (digits_after m) len) in
    rw (no_escape_quote m some, some, same, len) refl
part_again Quote Doubled next h = refl
part_again Quote (Cut (m ∷ ds)) next h =
    let (less, more) = and_parts (nat_lt (length ds) (digits_after m)) (list_all is_ascii_hexdigit ds
    && not (begins is_ascii_hexdigit next)) h in
    let (all, stop) = and_parts (list_all is_ascii_hexdigit ds) (not (begins is_ascii_hexdigit next)) more in
    let some = is_some (length ds) (digits_after m) less in
    let few = ltb-true (length ds) (digits_after m) less in
    let same : hex_run (digits_after m) (ds ++ next)
    ≡ ds = hex_short ds next (digits_after m) all (omega (arith, few))
    (not-true (begins is_ascii_hexdigit next) stop) in
    rw (no_escape_quote m some, some, same, is_less (length ds) (digits_after m) less) refl
part_again Quote (Continues false bs) next h = ap (λ x. Some (Continues false x))
    (run_of_again spaces spaces_some spaces_again bs next h)
part_again Quote (Continues true bs) next h = ap (λ x. Some (Continues true x))
    (run_of_again spaces spaces_some spaces_again bs next h)
part_again Quote (Wrong c t) next h =
    let (never, stop) = and_parts (not (may_escape Quote (c ∷ (t ++ next)))) (is_run is_continuation t next) h in
    let (none, more) = or_parts (is_escape Quote c) _ (not-true _ never) in
    let (few, line) = or_parts (nat_lt 0 (digits_after c)) (is_line_end (c ∷ (t ++ next))) more in
    let (feed, return) = or_parts (is_line_feed c) (c == 13 && begins is_line_feed (t ++ next)) line in
    rw (none, few, feed, return) (ap (λ x. Some (Wrong c x)) (run_again is_continuation t next stop))
part_again Quote (Cut []) [] h = refl
part_again Quote (Cut []) (c ∷ next) h = absurd (true≢false (sym h))
part_again Apostrophe (Plain c) next h =
    let (quote, more) = or_parts (c == 39) (c == 92
    || is_line_feed c) (not-true (c == 39 || (c == 92 || is_line_feed c)) h) in
    let (slash, line) = or_parts (c == 92) (is_line_feed c) more in
    rw (quote, slash, line) refl
part_again Apostrophe LineEnd next h = absurd (true≢false (sym h))
part_again Apostrophe (Escaped c) next h = rw h refl
part_again Apostrophe (Coded m ds) next h =
    let (wants, all) = and_parts (nat_lt 0 (digits_after m)
    && length ds == digits_after m) (list_all is_ascii_hexdigit ds) h in
    let (some, len) = and_parts (nat_lt 0 (digits_after m)) (length ds == digits_after m) wants in
    let same : hex_run (digits_after m) (ds ++ next)
    ≡ ds = hex_again ds next (digits_after m) all (eqb-true (length ds) (digits_after m) len) in
    rw (no_escape_apostrophe m some, some, same, len) refl
part_again Apostrophe Doubled next h = refl
part_again Apostrophe (Cut (m ∷ ds)) next h =
    let (less, more) = and_parts (nat_lt (length ds) (digits_after m)) (list_all is_ascii_hexdigit ds
    && not (begins is_ascii_hexdigit next)) h in
    let (all, stop) = and_parts (list_all is_ascii_hexdigit ds) (not (begins is_ascii_hexdigit next)) more in
    let some = is_some (length ds) (digits_after m) less in
    let few = ltb-true (length ds) (digits_after m) less in
    let same : hex_run (digits_after m) (ds ++ next)
    ≡ ds = hex_short ds next (digits_after m) all (omega (arith, few))
    (not-true (begins is_ascii_hexdigit next) stop) in
    rw (no_escape_apostrophe m some, some, same, is_less (length ds) (digits_after m) less) refl
part_again Apostrophe (Continues returns bs) next h = absurd (true≢false (sym h))
part_again Apostrophe (Wrong c t) next h =
    let (never, stop) = and_parts (not (may_escape Apostrophe (c ∷ (t ++ next)))) (is_run is_continuation t next) h in
    let (none, more) = or_parts (is_escape Apostrophe c) _ (not-true _ never) in
    let (few, feed) = or_parts (nat_lt 0 (digits_after c)) (is_line_feed c) more in
    rw (none, few, feed) (ap (λ x. Some (Wrong c x)) (run_again is_continuation t next stop))
part_again Apostrophe (Cut []) [] h = refl
part_again Apostrophe (Cut []) (c ∷ next) h = subst (λ (x : ℕ). part_at Apostrophe (92 ∷ (x ∷ next))
    ≡ Some (Cut [])) (sym (line_ended c h)) refl
part_again Tick (Plain c) next h =
    let (tick, more) = or_parts (c == 96) _ (not-true _ h) in
    let (dollar, return) = or_parts (c == 36 && begins (λ d. d == 123) next) (c == 13
    && begins is_line_feed next) more in
    rw (tick, dollar, return) refl
part_again Tick LineEnd next h = refl
part_again Tick (Escaped c) next h = absurd (true≢false (sym h))
part_again Tick (Coded m ds) next h = absurd (true≢false (sym h))
part_again Tick Doubled next h = refl
part_again Tick (Cut t) next h = absurd (true≢false (sym h))
part_again Tick (Continues returns bs) next h = absurd (true≢false (sym h))
part_again Tick (Wrong c t) next h = absurd (true≢false (sym h))
