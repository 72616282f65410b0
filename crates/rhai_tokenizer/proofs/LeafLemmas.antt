-- What small functions of the code find.
use Rattle.std.proofs.Common.{◌≡◌, ℕ, zero, suc, ◌+◌, ◌-◌, ◌<◌, ◌≤◌, Bool, true, false, cond, ◌==◌, nat_lt, min, [], ◌∷◌, length, take, drop, get_or, refl, sym, ap, ◌∙◌, subst, arith, true≢false}
use Rattle.std.proofs.lemmas.Bool.{and_parts, or_parts, ltb-true, ltb-false, lt-ltb, le-ltb}
use Rattle.std.proofs.lemmas.Bool.Decides.{nat_tests}
use Rattle.std.proofs.lemmas.List.{take_at}
use Rattle.std.specs.Char.{is_ascii_hexdigit}
use Rattle.std.specs.List.{prefix_len, list_all, list_any}
use Rattle.std.specs.Str.{IsCharBoundary}
use Rattle.std.proofs.Common.{IsUtf8}
use Rattle.std.proofs.lemmas.Str.{IsCharBoundary-after_ascii}
use Rattle.rhai_tokenizer.proofs.ByteLemmas.{begins_split}
use Rattle.rhai_lower.specs.Texts.{Text}
use Rattle.rhai_tokenizer.specs.declared.place.Line.{Line}
use Rattle.rhai_tokenizer.specs.declared.place.Place.{Place}
use Rattle.rhai_tokenizer.specs.Bytes.{begins, begins_with, is_continuation, is_line_feed, spaces, blanks}
use Rattle.rhai_tokenizer.specs.CuttingMeanings.{columns, is_plain}
use Rattle.rhai_tokenizer.specs.CuttingStrings.{hex_run}
use Rattle.rhai_tokenizer.specs.Meanings.{without_return}
use Rattle.rhai_tokenizer.specs.Places.{at_line, past}
use Rattle.rhai_tokenizer.specs.Runs.{first_of, run}
use Rattle.rhai_tokenizer.specs.Strings.{character, continued}
use Rattle.rhai_tokenizer.specs.Turns.{IsIn, place_in}
use Rattle.rhai_tokenizer.proofs.PartLemmas.{hex_split}

pub length-run : (p : ℕ → Bool) (t : Text) → prefix_len p t ≡ length (run p t)
length-run p [] = refl
length-run p (c ∷ t) = by (p c) (length-run p t)
  where
    by : (b : Bool) → prefix_len p t ≡ length (run p t) → cond b (1 + prefix_len p t) 0
        ≡ length (cond b (c ∷ run p t) [])
    by true ih = omega (arith, ih)
    by false ih = refl

pub length_run : (t : Text) → prefix_len is_continuation t ≡ length (run is_continuation t)
length_run = length-run is_continuation

-- ---- places

plain_run : (t : Text) (line column : ℕ) → list_all is_plain t ≡ true → column ≤ 65535 → past (at_line line column) t
    ≡ at_line line (min 65535 (column + length t))
plain_run [] line column h fits = let e : column ≡ min 65535 (column + 0) = omega arith in ap (at_line line) e
plain_run (c ∷ t) line column h fits =
    let (here, more) = and_parts (is_plain c) (list_all is_plain t) h in
    let feed : (c == 10) ≡ false = grind (arith, nat_tests) in
    let first : is_continuation c ≡ false = grind (arith, nat_tests) in
    rw (feed, first) (by (nat_lt column 65535) refl (λ k f. plain_run t line k more f))
  where
    by : (b : Bool) → nat_lt column 65535 ≡ b → ((k : ℕ) → k ≤ 65535 → past (at_line line k) t
        ≡ at_line line (min 65535 (k + length t))) → past (cond b (at_line line (column + 1)) (at_line line column)) t
        ≡ at_line line (min 65535 (column + length (c ∷ t)))
    by true e ih =
        let less = ltb-true column 65535 e in
        let same : min 65535 ((column + 1) + length t) ≡ min 65535 (column + length (c ∷ t)) = omega arith in
        ih (column + 1) (omega (arith, less)) ∙ ap (at_line line) same
    by false e ih =
        let full = ltb-false column 65535 e in
        let same : min 65535 (column + length t) ≡ min 65535 (column + length (c ∷ t)) = omega (arith, full) in
        ih column fits ∙ ap (at_line line) same

pub past_within : (p : Place) (t : Text) (len : ℕ) → p.column ≤ 65535 → length t ≡ len → list_all is_plain t ≡ true
    → len < 65535 - p.column → at_line p.line (p.column + len) ≡ past p t
past_within p t len fits size plain room =
    let same : min 65535 (p.column + length t) ≡ p.column + len = omega arith in
    sym (plain_run t p.line p.column plain fits ∙ ap (at_line p.line) same)

pub past_full : (p : Place) (t : Text) (len : ℕ) → p.column ≤ 65535 → length t ≡ len → list_all is_plain t ≡ true
    → 65535 - p.column ≤ len → at_line p.line 65535 ≡ past p t
past_full p t len fits size plain room =
    let same : min 65535 (p.column + length t) ≡ 65535 = omega arith in
    sym (plain_run t p.line p.column plain fits ∙ ap (at_line p.line) same)

-- the place after bytes of which none ends a line
pub columns_run : (t : Text) (line column : ℕ) → list_any is_line_feed t ≡ false → column ≤ 65535
    → past (at_line line column) t ≡ at_line line (min 65535 (column + columns t))
columns_run [] line column h fits = let e : column ≡ min 65535 (column + 0) = omega arith in ap (at_line line) e
columns_run (c ∷ t) line column h fits =
    let (here, more) = or_parts (is_line_feed c) (list_any is_line_feed t) h in
    rw here (by (is_continuation c) (nat_lt column 65535) refl (λ k f. columns_run t line k more f))
  where
    by : (b d : Bool) → nat_lt column 65535 ≡ d → ((k : ℕ) → k ≤ 65535 → past (at_line line k) t
        ≡ at_line line (min 65535 (k + columns t)))
        → past (cond b (at_line line column) (cond d (at_line line (column + 1)) (at_line line column))) t
        ≡ at_line line (min 65535 (column + cond b (columns t) (columns t + 1)))
    by true d e ih = ih column fits
    by false true e ih =
        let less = ltb-true column 65535 e in
        let same : min 65535 ((column + 1) + columns t) ≡ min 65535 (column + (columns t + 1)) = omega arith in
        ih (column + 1) (omega (arith, less)) ∙ ap (at_line line) same
    by false false e ih =
        let full = ltb-false column 65535 e in
        let same : min 65535 (column + columns t) ≡ min 65535 (column + (columns t + 1)) = omega (arith, full) in
        ih column fits ∙ ap (at_line line) same

-- the place after bytes that each take a column, which begin after so many bytes
pub plain_in : (l : Line) (at n : ℕ) (t : Text) → IsIn l at → length t ≡ n → list_all is_plain t ≡ true
    → place_in l (at + n) ≡ past (place_in l at) t
plain_in l at n t h size plain =
    let column = min 65534 (at + 65534 - l.origin) + 1 in
    let fits : column ≤ 65535 = omega arith in
    let same : min 65534 ((at + n) + 65534 - l.origin) + 1 ≡ min 65535 (column + length t) = omega (arith, h.1, size) in
    ap (at_line l.number) same ∙ sym (plain_run t l.number column plain fits)

-- ---- characters

continued_run : (t : Text) → continued t ≡ run is_continuation t
continued_run [] = refl
continued_run (c ∷ t) = ap (λ r. cond (is_continuation c) (c ∷ r) []) (continued_run t)

pub character_one : (t : Text) → 1 ≤ length t → get_or t 0 0 < 128 → 1 ≡ length (character t)
character_one [] h l = absurd (omega arith)
character_one (c ∷ t) h l = let e = lt-ltb c 128 l in rw e refl

pub character_more : (t : Text) (n : ℕ) → 1 ≤ length t → 128 ≤ get_or t 0 0 → n
    ≡ prefix_len is_continuation (drop 1 t) → 1 + n ≡ length (character t)
character_more [] n h l e = absurd (omega arith)
character_more (c ∷ t) n h l e =
    let f = le-ltb c 128 l in
    let m : length (continued t) ≡ n = ap length (continued_run t) ∙ (sym (length-run is_continuation t) ∙ sym e) in
    rw f (omega (arith, m))

pub hex_count : (n : ℕ) (t : Text) → prefix_len is_ascii_hexdigit (take n t) ≡ length (hex_run n t)
hex_count zero t = refl
hex_count (suc n) [] = refl
hex_count (suc n) (c ∷ t) = by (is_ascii_hexdigit c) (hex_count n t)
  where
    by : (b : Bool) → prefix_len is_ascii_hexdigit (take n t) ≡ length (hex_run n t)
        → cond b (1 + prefix_len is_ascii_hexdigit (take n t)) 0 ≡ length (cond b (c ∷ hex_run n t) [])
    by true ih = omega (arith, ih)
    by false ih = refl

pub hex_front : (n k : ℕ) (t : Text) → k ≡ length (hex_run n t) → take k t ≡ hex_run n t
hex_front n k t e = ap (λ x. take x t) e ∙ (ap (take (length (hex_run n t))) (sym (hex_split n t))
    ∙ take_at (hex_run n t) (drop (length (hex_run n t)) t) (length (hex_run n t)) refl)

-- ---- white space

spaces_are : blanks ≡ (10 ∷ []) ∷ spaces
unfolding blanks spaces lib.Utf8.encode
spaces_are = refl

no_space : (t : Text) → length (first_of spaces (10 ∷ t)) ≡ 0
unfolding blanks spaces lib.Utf8.encode
no_space t = refl

pub space_feed : (t : Text) → begins is_line_feed t ≡ true → 0 ≡ length (first_of spaces t)
space_feed [] h = absurd (true≢false (sym h))
space_feed (c ∷ t) h = subst (λ (x : ℕ). 0 ≡ length (first_of spaces (x ∷ t))) (sym (feed c h)) (sym (no_space t))
  where
    feed : (c : ℕ) → is_line_feed c ≡ true → c ≡ 10
    feed c h = grind (arith, nat_tests)

pub space_other : (t : Text) (n : ℕ) → begins is_line_feed t ≡ false → n ≡ length (first_of blanks t) → n
    ≡ length (first_of spaces t)
space_other [] n h e = e ∙ ap (λ ts. length (first_of ts [])) spaces_are
space_other (c ∷ t) n h e = e ∙ (ap (λ ts. length (first_of ts (c ∷ t))) spaces_are ∙ rw h refl)

-- ---- lines

pub line_cut : (t : Text) → 0 < length t → get_or t (length t - 1) 0 ≡ 13 → take (length t - 1) t ≡ without_return t
line_cut [] h e = absurd (omega arith)
line_cut (c ∷ []) h e = let f : c ≡ 13 = e in rw f refl
line_cut (c ∷ (d ∷ t)) h e =
    let n : length (c ∷ (d ∷ t)) - 1 ≡ suc (length (d ∷ t) - 1) = omega arith in
    let e' : get_or (d ∷ t) (length (d ∷ t) - 1) 0 ≡ 13 = ap (λ k. get_or (c ∷ (d ∷ t)) k 0) (sym n) ∙ e in
    rw n (ap (λ x. c ∷ x) (line_cut (d ∷ t) (omega arith) e'))

pub line_whole : (t : Text) → (get_or t (length t - 1) 0 ≡ 13 → ⊥) → t ≡ without_return t
line_whole [] h = refl
line_whole (c ∷ []) h = let f : (c == 13) ≡ false = other c h in rw f refl
  where
    other : (c : ℕ) → (c ≡ 13 → ⊥) → (c == 13) ≡ false
    other c h = grind (arith, nat_tests)
line_whole (c ∷ (d ∷ t)) h =
    let n : length (c ∷ (d ∷ t)) - 1 ≡ suc (length (d ∷ t) - 1) = omega arith in
    ap (λ x. c ∷ x) (line_whole (d ∷ t) (λ e. h (ap (λ k. get_or (c ∷ (d ∷ t)) k 0) n ∙ e)))

-- a text may be cut before and after a byte of one character
pub cut_before : (t : Text) (i x : ℕ) → i < length t → get_or t i 0 ≡ x → x < 128 → IsCharBoundary t i
cut_before t i x within e small = (omega arith, λ inside big. absurd (omega arith))

pub line_empty : (t : Text) → length t ≤ 0 → t ≡ without_return t
line_empty [] h = refl
line_empty (c ∷ t) h = absurd (omega arith)

pub few_digits : (n k m : ℕ) (t : Text) → m ≡ min n (length t) → k ≡ prefix_len is_ascii_hexdigit (take m t) → k
    ≡ length (hex_run n t)
few_digits n k m t is e = e ∙ (ap (prefix_len is_ascii_hexdigit) (ap (λ x. take x t) is ∙ taken n t) ∙ hex_count n t)
  where
    taken : (n : ℕ) (t : Text) → take (min n (length t)) t ≡ take n t
    taken zero t = let e : min 0 (length t) ≡ 0 = omega arith in rw e refl
    taken (suc n) [] = let e : min (suc n) 0 ≡ 0 = omega arith in rw e refl
    taken (suc n) (c ∷ t) = let e : min (suc n) (length (c ∷ t))
        ≡ suc (min n (length t)) = omega arith in rw e (ap (λ x. c ∷ x) (taken n t))

pub after_mark : (mark : ℕ) (t : Text) → mark < 128 → begins_with (mark ∷ []) t ≡ true → IsUtf8 t → IsCharBoundary t 1
after_mark mark t small h u =
    let P : Text → Type 0 = λ x. IsUtf8 x → IsCharBoundary x 1 in
    subst P (begins_split (mark ∷ []) t h) (λ v. IsCharBoundary-after_ascii (mark ∷ drop 1 t) 0 v (omega arith) small) u
