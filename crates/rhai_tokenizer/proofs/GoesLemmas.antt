-- What a string says after a front of it.
use Rattle.std.proofs.Common.{◌≡◌, ℕ, zero, suc, ◌+◌, ◌<◌, ◌≤◌, Bool, true, false, cond, ◌||◌, ◌==◌, nat_lt, List, [], ◌∷◌, ◌++◌, length, take, drop, Option, Some, None, refl, sym, ap, ◌∙◌, subst, arith, true≢false, append_assoc, inl, inr, ◌⊎◌}
use Rattle.std.proofs.lemmas.Bool.{or_parts, eqb-true, not-true, not-false}
use Rattle.std.proofs.lemmas.Bool.Decides.{nat_tests}
use Rattle.std.proofs.lemmas.List.{drop-drop, take_at, length-append, length-drop, length-take-le, take-append-drop}
use Rattle.std.specs.List.{prefix_len}
use Rattle.std.specs.Str.{IsCharBoundary}
use Rattle.rhai_lower.specs.Texts.{Text}
use Rattle.rhai_tokenizer.specs.declared.place.Place.{Place}
use Rattle.rhai_tokenizer.specs.Bytes.{begins, in_line, is_continuation, is_empty, is_line_feed}
use Rattle.rhai_tokenizer.specs.Places.{past}
use Rattle.rhai_tokenizer.specs.Strings.{Part, Plain, LineEnd, Escaped, Coded, Doubled, Continues, Wrong, Cut, Ending, Closed, Unended, Interpolates, Style, Quote, Tick, Apostrophe, Fault, escapes, part_letters, string_letters, string_fits, part_value, string_value, spoiled, fault_at, or_fault, first_fault, continued, character}
use Rattle.rhai_tokenizer.specs.CuttingStrings.{part_at, ending_at, parts_from, parts_length, ending_after, is_sure}
use Rattle.rhai_tokenizer.specs.StringTurns.{Goes, end_of, letters_of, value_of, wrong_of}
use Rattle.rhai_tokenizer.proofs.PositionLemmas.{past-append}
use Rattle.rhai_tokenizer.proofs.BoundaryLemmas.{before, ends}
use Rattle.rhai_tokenizer.proofs.PartLemmas.{PartStands, Stand, part_stands}
use Rattle.rhai_tokenizer.proofs.StringLemmas.{string_stands, one_part}

pub or_none : (f : Option Fault) → or_fault f None ≡ f
or_none None = refl
or_none (Some f) = refl

pub or_assoc : (f g h : Option Fault) → or_fault f (or_fault g h) ≡ or_fault (or_fault f g) h
or_assoc None g h = refl
or_assoc (Some f) g h = refl

-- the front of a text that is a part
pub part_front : (style : Style) (t : Text) (p : Part) → part_at style t ≡ Some p → PartStands style t p
part_front style t p h = subst (λ (x : Option Part). Stand style t x) h (part_stands style t)

pub front_take : (s t : Text) → s ++ drop (length s) t ≡ t → take (length s) t ≡ s
front_take s t e = ap (take (length s)) (sym e) ∙ take_at s (drop (length s) t) (length s) refl

pub front_within : (s t : Text) → s ++ drop (length s) t ≡ t → length s ≤ length t
front_within s t e = omega (arith, ap length e, length-append s (drop (length s) t))

pub part_goes : (style : Style) (column : ℕ) (place : Place) (t : Text) (p : Part) → part_at style t ≡ Some p
    → Goes style column place t (length (part_letters style p)) (part_value style column place p)
    (fault_at place (spoiled p (letters_of style (drop (length (part_letters style p)) t))))
part_goes style column place t p h =
    let s = part_front style t p h in
    let rest : Text = drop (length (part_letters style p)) t in
    let one = one_part style t p h in
    let front : take (length (part_letters style p)) t
    ≡ part_letters style p = front_take (part_letters style p) t s.split in
    let ends : end_of style t ≡ end_of style (drop (length (part_letters style p)) t) =
    ap (λ ps. ending_after style ps t) one
    ∙ ap (ending_at style) (sym (drop-drop (parts_length style
    (parts_from style 0 (drop (length (part_letters style p)) t))) (length (part_letters style p)) t)) in
    record {
      values = ap (string_value style column place) one
          ∙ ap (λ x. part_value style column place p
          ++ string_value style column (past place x) (parts_from style 0 rest)) (sym front);
      faults = ap (λ ps. first_fault style place ps (end_of style t)) one
          ∙ (ap (λ e. or_fault (fault_at place (spoiled p (string_letters style (parts_from style 0 rest) e)))
          (first_fault style (past place (part_letters style p)) (parts_from style 0 rest) e)) ends
          ∙ ap (λ x. or_fault (fault_at place (spoiled p (letters_of style rest)))
          (first_fault style (past place x) (parts_from style 0 rest) (end_of style rest))) (sym front));
      ends = ends;
      letters =
          ap (λ ps. string_letters style ps (end_of style t)) one
          ∙ (ap (λ e. part_letters style p ++ string_letters style (parts_from style 0 rest) e) ends
          ∙ ap (λ x. x ++ letters_of style rest) (sym front));
      within = front_within (part_letters style p) t s.split;
    }

-- nothing is taken
stays : (style : Style) (column : ℕ) (place : Place) (t : Text) → Goes style column place t 0 [] None
stays style column place t = record { values = refl; faults = refl; ends = refl; letters = refl; within = omega arith }

sure_plain : (style : Style) (c : ℕ) (t : Text) → is_sure style c ≡ true → part_at style (c ∷ t) ≡ Some (Plain c)
sure_plain Quote c t h =
    let (quote, more) = or_parts (c == 34) (c == 92
    || is_line_feed c) (not-true (c == 34 || (c == 92 || is_line_feed c)) h) in
    let (slash, line) = or_parts (c == 92) (is_line_feed c) more in
    rw (quote, slash, line) refl
sure_plain Apostrophe c t h =
    let (quote, more) = or_parts (c == 39) (c == 92
    || is_line_feed c) (not-true (c == 39 || (c == 92 || is_line_feed c)) h) in
    let (slash, line) = or_parts (c == 92) (is_line_feed c) more in
    rw (quote, slash, line) refl
sure_plain Tick c t h =
    let (tick, more) = or_parts (c == 96) (c == 36 || c == 13) (not-true (c == 96 || (c == 36 || c == 13)) h) in
    let (dollar, return) = or_parts (c == 36) (c == 13) more in
    rw (tick, dollar, return) refl

pub take_more : (n m : ℕ) (t : Text) → n ≤ length t → take n t ++ take m (drop n t) ≡ take (n + m) t
take_more zero m t h = let e : 0 + m ≡ m = omega arith in rw e refl
take_more (suc n) m [] h = absurd (omega arith)
take_more (suc n) m (c ∷ t) h = let e : suc n + m ≡ suc (n + m) = omega arith in rw e (ap (λ x. c
    ∷ x) (take_more n m t (omega arith)))

-- two steps are one
pub goes_on : (style : Style) (column : ℕ) (place : Place) (t : Text) (n m : ℕ) (v w : Text) (f g : Option Fault)
    → Goes style column place t n v f → Goes style column (past place (take n t)) (drop n t) m w g
    → Goes style column place t (n + m) (v ++ w) (or_fault f g)
goes_on style column place t n m v w f g x y =
    let moved : drop m (drop n t) ≡ drop (n + m) t = drop-drop m n t in
    let front : take n t ++ take m (drop n t) ≡ take (n + m) t = take_more n m t x.within in
    let place_is : past (past place (take n t)) (take m (drop n t))
    ≡ past place (take (n + m) t) = sym (past-append (take n t) place (take m (drop n t)))
    ∙ ap (past place) front in
    record {
      values = x.values ∙ (ap (λ z. v ++ z) y.values
          ∙ (sym (append_assoc v w _) ∙ (ap (λ z. (v ++ w) ++ value_of style column z (drop m (drop n t))) place_is
          ∙ ap (λ z. (v ++ w) ++ value_of style column (past place (take (n + m) t)) z) moved)));
      faults = x.faults ∙ (ap (or_fault f) y.faults
          ∙ (or_assoc f g _ ∙ (ap (λ z. or_fault (or_fault f g) (wrong_of style z (drop m (drop n t)))) place_is
          ∙ ap (λ z. or_fault (or_fault f g) (wrong_of style (past place (take (n + m) t)) z)) moved)));
      ends = x.ends ∙ (y.ends ∙ ap (end_of style) moved);
      letters = x.letters ∙ (ap (λ z. take n t ++ z) y.letters
          ∙ (sym (append_assoc (take n t) (take m (drop n t)) (letters_of style (drop m (drop n t))))
          ∙ (ap (λ z. z ++ letters_of style (drop m (drop n t))) front
          ∙ ap (λ z. take (n + m) t ++ letters_of style z) moved)));
      within = omega (arith, x.within, y.within, length-drop n t);
    }

one_goes : (style : Style) (column : ℕ) (place : Place) (c : ℕ) (t : Text) → is_sure style c ≡ true
    → Goes style column place (c ∷ t) 1 (c ∷ []) None
one_goes style column place c t h = part_goes style column place (c ∷ t) (Plain c) (sure_plain style c t h)

pub sure_goes : (style : Style) (column : ℕ) (place : Place) (t : Text)
    → Goes style column place t (prefix_len (is_sure style) t) (take (prefix_len (is_sure style) t) t) None
sure_goes style column place [] = stays style column place []
sure_goes style column place (c ∷ t) = by (is_sure style c) refl (λ p. sure_goes style column p t)
  where
    by : (b : Bool) → is_sure style c ≡ b → ((p : Place)
        → Goes style column p t (prefix_len (is_sure style) t) (take (prefix_len (is_sure style) t) t) None)
        → Goes style column place (c ∷ t) (cond b (1 + prefix_len (is_sure style) t) 0)
        (take (cond b (1 + prefix_len (is_sure style) t) 0) (c ∷ t)) None
    by true e ih =
        let n : 1 + prefix_len (is_sure style) t ≡ suc (prefix_len (is_sure style) t) = omega arith in
        let g = goes_on style column place (c ∷ t) 1 (prefix_len (is_sure style) t) (c
        ∷ []) (take (prefix_len (is_sure style) t) t) None None (one_goes style column place c t e)
        (ih (past place (c ∷ []))) in
        subst (λ (k : ℕ). Goes style column place (c ∷ t) (1 + prefix_len (is_sure style) t) (take k (c ∷ t)) None)
        (sym n) g
    by false e ih = stays style column place (c ∷ t)

pub sure_goes_at : (style : Style) (column : ℕ) (place : Place) (t : Text) (n : ℕ) → n ≡ prefix_len (is_sure style) t
    → Goes style column place t n (take n t) None
sure_goes_at style column place t n e = subst (λ (x : ℕ). Goes style column place t x (take x t) None) (sym e)
    (sure_goes style column place t)

pub sure_stops : (style : Style) (t : Text) → begins (is_sure style) (drop (prefix_len (is_sure style) t) t) ≡ false
sure_stops style [] = refl
sure_stops style (c ∷ t) = by (is_sure style c) refl (sure_stops style t)
  where
    by : (b : Bool) → is_sure style c ≡ b → begins (is_sure style) (drop (prefix_len (is_sure style) t) t) ≡ false
        → begins (is_sure style) (drop (cond b (1 + prefix_len (is_sure style) t) 0) (c ∷ t)) ≡ false
    by true e g = let n : 1 + prefix_len (is_sure style) t ≡ suc (prefix_len (is_sure style) t) = omega arith in rw n g
    by false e g = e

pub unsure : (style : Style) (t more : Text) (n : ℕ) → n ≡ prefix_len (is_sure style) t → more ≡ drop n t
    → begins (is_sure style) more ≡ false
unsure style t more n n_is more_is = ap (begins (is_sure style)) (more_is ∙ ap (λ x. drop x t) n_is)
    ∙ sure_stops style t

unsure_stops : (style : Style) (u : Text) → begins (is_sure style) u ≡ false → begins is_continuation u ≡ false
unsure_stops style [] h = refl
unsure_stops Quote (c ∷ u) h = grind (arith, nat_tests)
unsure_stops Tick (c ∷ u) h = grind (arith, nat_tests)
unsure_stops Apostrophe (c ∷ u) h = grind (arith, nat_tests)

pub sure_boundary : (style : Style) (t : Text) (n : ℕ) → n ≡ prefix_len (is_sure style) t → n ≤ length t
    → IsCharBoundary t n
sure_boundary style t n n_is within =
    let b = before (take n t) (drop n t) (unsure_stops style (drop n t) (unsure style t (drop n t) n n_is refl)) in
    subst (λ (x : Text). IsCharBoundary x n) (take-append-drop n t)
    (subst (λ (k : ℕ). IsCharBoundary (take n t ++ drop n t) k) (length-take-le n t within) b)

-- ---- what stands after an escape that is cut

-- a string with nothing in it ends with its line
empty_ends : (style : Style) (ps : List Part) (e : Ending) (next : Text) → escapes style ≡ true
    → string_fits style ps e next ≡ true → is_empty (string_letters style ps e) ≡ true → begins in_line next ≡ false
empty_ends Quote [] Unended next x f h = not-true (begins in_line next) f
empty_ends Apostrophe [] Unended next x f h = not-true (begins in_line next) f
empty_ends Tick [] Unended next x f h = absurd (true≢false (sym x))
empty_ends style [] Closed next x f h = absurd (true≢false (sym h))
empty_ends style [] Interpolates next x f h = absurd (true≢false (sym h))
empty_ends style (Plain c ∷ ps) e next x f h = absurd (true≢false (sym h))
empty_ends style (LineEnd ∷ ps) e next x f h = absurd (true≢false (sym h))
empty_ends style (Escaped c ∷ ps) e next x f h = absurd (true≢false (sym h))
empty_ends style (Coded m ds ∷ ps) e next x f h = absurd (true≢false (sym h))
empty_ends style (Doubled ∷ ps) e next x f h = absurd (true≢false (sym h))
empty_ends style (Continues r bs ∷ ps) e next x f h = absurd (true≢false (sym h))
empty_ends style (Wrong c t ∷ ps) e next x f h = absurd (true≢false (sym h))
empty_ends style (Cut t ∷ ps) e next x f h = absurd (true≢false (sym h))

pub some_letters : (style : Style) (t : Text) → escapes style ≡ true → begins in_line t ≡ true
    → is_empty (letters_of style t) ≡ false
some_letters style t x h = by (letters_of style t) refl
  where
    by : (s : Text) → letters_of style t ≡ s → is_empty (letters_of style t) ≡ false
    by [] e =
        let s = string_stands style t in
        let whole : drop (length (letters_of style t)) t ≡ t = ap (λ y. drop (length y) t) e in
        let fits : string_fits style (parts_from style 0 t) (end_of style t) t
        ≡ true = ap (string_fits style (parts_from style 0 t) (end_of style t)) (sym whole) ∙ s.fits in
        absurd (true≢false (sym h ∙ empty_ends style (parts_from style 0 t) (end_of style t) t x fits (ap is_empty e)))
    by (c ∷ s) e = ap is_empty e

pub no_letters : (style : Style) (t : Text) → escapes style ≡ true → begins in_line t ≡ false → letters_of style t ≡ []
no_letters style [] x h = refl
no_letters Quote (c ∷ t) x h =
    let e : c ≡ 10 = eqb-true c 10 (not-false (is_line_feed c) h) in
    subst (λ (y : ℕ). letters_of Quote (y ∷ t) ≡ []) (sym e) refl
no_letters Apostrophe (c ∷ t) x h =
    let e : c ≡ 10 = eqb-true c 10 (not-false (is_line_feed c) h) in
    subst (λ (y : ℕ). letters_of Apostrophe (y ∷ t) ≡ []) (sym e) refl
no_letters Tick (c ∷ t) x h = absurd (true≢false (sym x))

-- its first character is that of the text
pub same_character : (style : Style) (t : Text) → is_empty (letters_of style t) ≡ false → character (letters_of style t)
    ≡ character t
same_character style t h =
    let s = string_stands style t in
    by (letters_of style t) (drop (length (letters_of style t)) t) h
    (ends style (parts_from style 0 t) (end_of style t) _ s.fits) ∙ ap character s.split
  where
    stop : (x : Text) (next : Text) → begins is_continuation next ≡ false → continued (x ++ next) ≡ continued x
    stop [] [] h = refl
    stop [] (d ∷ next) h = rw h refl
    stop (d ∷ x) next h = ap (λ r. cond (is_continuation d) (d ∷ r) []) (stop x next h)

    close : (x next : Text) (d : ℕ) → d < 128 → continued ((x ++ d ∷ []) ++ next) ≡ continued (x ++ d ∷ [])
    close [] next d h = let e : is_continuation d ≡ false = grind (arith, nat_tests) in rw e refl
    close (c ∷ x) next d h = ap (λ r. cond (is_continuation c) (c ∷ r) []) (close x next d h)

    by : (x next : Text) → is_empty x ≡ false → (begins is_continuation next ≡ false) ⊎ ((u : Text) × (d : ℕ)
        × (d < 128) × (x ≡ u ++ d ∷ [])) → character x ≡ character (x ++ next)
    by [] next e w = absurd (true≢false e)
    by (c ∷ x) next e (inl h) = ap (λ r. c ∷ cond (nat_lt c 128) [] r) (sym (stop x next h))
    by (c ∷ x) next e (inr ([], d, l, same)) =
        let one : c ≡ d = cc in
        let small : nat_lt c 128 ≡ true = grind (arith, nat_tests) in
        rw small refl
    by (c ∷ x) next e (inr (b ∷ u, d, l, same)) =
        let rest : x ≡ u ++ d ∷ [] = cc in
        ap (λ r. c ∷ cond (nat_lt c 128) [] r) (ap continued rest
        ∙ (sym (close u next d l) ∙ ap (λ y. continued (y ++ next)) (sym rest)))
