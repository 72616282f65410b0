-- The steps of the loops that print, and how many digits a number is printed with.
use Rattle.std.proofs.Common.{◌≡◌, ◌∙◌, ◌+◌, ◌*◌, ◌^◌, ◌<◌, ◌≤◌, ℕ, zero, suc, List, [], ◌∷◌, ◌++◌, ap, append_assoc}
use Rattle.std.proofs.Common.{arith}
use Rattle.std.proofs.Common.{get_or, length, map, refl, string_bytes, subst, sym, take}
use Rattle.std.proofs.Math.Nat.{one-le-pow, pow-le-pow_right}
use Rattle.std.proofs.lemmas.Fmt.{decimal-digits_of, decimal_digit, decimal_nonempty}
use Rattle.std.proofs.lemmas.Grind.{pow_more}
use Rattle.std.proofs.lemmas.Int.Digits.{all_below_base_digits_of, length-digits_of-le, number_digits_of, number_lt}
use Rattle.std.proofs.lemmas.List.{append-nil, length-map, map-append, replicate_more, take_more}
use Rattle.std.proofs.lemmas.Str.{encodes-append}
use Rattle.std.specs.Char.{encode_utf8}
use Rattle.std.specs.Fmt.{decimal}
use Rattle.std.specs.Int.Digits.{digits_of}
use Rattle.std.specs.Prelude.{None, Some, codes, replicate}
use Rattle.std.specs.Str.{encode_utf8_all}
use Rattle.rhai_lower.specs.Texts.{Text}
use Rattle.rhai_report.specs.Printed.{PrintsNote, PrintsNotes, columns, filled, parts_wide, remark_of, remarks, tabbed}
use Rattle.rhai_report.specs.Printed.{PrintsMark, carets, edge, line, place, written}
use Rattle.rhai_report.specs.Snippets.{IsSnippetOf}
use Rattle.rhai_report.specs.declared.mark.Mark.{Mark}
use Rattle.rhai_report.specs.declared.report.Note.{Note}
use Rattle.rhai_report.specs.declared.report.Source.{Source}
use Rattle.rhai_report.specs.declared.snippet.Snippet.{Snippet}
use Rattle.rhai_report.specs.declared.style.Style.{Style}

-- ---- digits

-- A number has one digit more than the power of ten that it reaches; and 0 has one.
pub digits_printed : (n k : ℕ) → n < 2 ^ 64 → 10 ^ k ≤ n → n < 10 * 10 ^ k → k + 1 ≡ length (decimal n)
digits_printed n k fits reached below =
    let ds = digits_of 10 n in
    let some : 0 < n = let least = one-le-pow k 10 (omega arith) in omega (arith, least, reached) in
    let same : length (decimal n) ≡ length ds =
    ap length (decimal-digits_of n some fits) ∙ length-map ds (λ d. 48 + d) in
    let few : length ds ≤ k + 1 = length-digits_of-le 10 (k + 1) n (omega arith) (rw pow_more (omega (arith, below))) in
    let many : n < 10 ^ length ds =
    subst (λ v. v < 10 ^ length ds) (number_digits_of 10 n (omega arith))
    (number_lt 10 ds (all_below_base_digits_of 10 n (omega arith))) in
    let more : length ds ≤ k → 10 ^ length ds ≤ 10 ^ k =
    λ le. pow-le-pow_right {n = 10} (omega arith) {i = length ds} {j = k} le in
    let one : 0 < length (decimal n) = decimal_nonempty n fits in
    grind (arith, few, many, reached, more, same, one)

pub digit_of_0 : (n : ℕ) → n ≡ 0 → 1 ≡ length (decimal n)
digit_of_0 n none = sym (ap length (ap decimal none ∙ decimal_digit 0 (omega arith)))

-- ---- characters

-- one more character after these
one_more : (cs : List ℕ) (c : ℕ) → encode_utf8_all cs ++ encode_utf8 c ≡ encode_utf8_all (cs ++ c ∷ [])
one_more cs c =
    ap (λ bs. encode_utf8_all cs ++ bs) (sym (append-nil (encode_utf8 c))) ∙ sym (encodes-append cs (c ∷ []))

pub filled_more : (out : Text) (n c : ℕ) → filled c n out ++ encode_utf8 c ≡ filled c (n + 1) out
filled_more out n c =
    append_assoc out (encode_utf8_all (replicate n c)) (encode_utf8 c)
    ∙ ap (λ bs. out ++ bs) (one_more (replicate n c) c ∙ ap encode_utf8_all (replicate_more n c))

pub shown_more : (f : ℕ → ℕ) (out : Text) (cs : List ℕ) (n c : ℕ) → (n < length cs) × (c ≡ get_or cs n c)
    → (out ++ encode_utf8_all (map f (take n cs))) ++ encode_utf8 (f c)
    ≡ out ++ encode_utf8_all (map f (take (n + 1) cs))
shown_more f out cs n c h =
    append_assoc out (encode_utf8_all (map f (take n cs))) (encode_utf8 (f c))
    ∙ ap (λ bs. out ++ bs) (one_more (map f (take n cs)) (f c)
    ∙ ap encode_utf8_all (sym (map-append f (take n cs) (c ∷ []))
    ∙ ap (map f) (sym (take_more cs n c h.0 ∙ ap (λ d. take n cs ++ d ∷ []) (sym h.1)))))

-- ---- what is as wide as a text

tabbed_more : (c : ℕ) (ps : List Text) (p out : Text)
    → tabbed c (ps ++ p ∷ []) out ≡ filled c (columns p) (written (codes "\t") (tabbed c ps out))
tabbed_more c [] p out = refl
tabbed_more c (q ∷ qs) p out = tabbed_more c qs p (filled c (columns q) (written (codes "\t") out))

more_parts : (c : ℕ) (q : Text) (qs : List Text) (p out : Text)
    → parts_wide c ((q ∷ qs) ++ p ∷ []) out ≡ filled c (columns p) (written (codes "\t") (parts_wide c (q ∷ qs) out))
more_parts c q qs p out = tabbed_more c qs p (filled c (columns q) out)

-- the part at an index is the next one
next_part : (ps : List Text) (n : ℕ) (p : Text) → n < length ps → p ≡ get_or ps n p
    → take (n + 1) ps ≡ take n ps ++ p ∷ []
next_part ps n p less is = take_more ps n p less ∙ ap (λ q. take n ps ++ q ∷ []) (sym is)

pub first_part : (c : ℕ) (ps : List Text) (n : ℕ) (p out : Text) → n < length ps → p ≡ get_or ps n p → n ≡ 0
    → filled c (columns p) (parts_wide c (take n ps) out) ≡ parts_wide c (take (n + 1) ps) out
first_part c ps n p out less is none =
    sym (ap (λ qs. parts_wide c qs out) (next_part ps n p less is)
    ∙ subst (λ m. parts_wide c (take m ps ++ p ∷ []) out ≡ filled c (columns p) (parts_wide c (take m ps) out))
    (sym none) refl)

pub other_part : (c : ℕ) (ps : List Text) (n : ℕ) (p out : Text) → n < length ps → p ≡ get_or ps n p → 0 < n
    → filled c (columns p) (written (codes "\t") (parts_wide c (take n ps) out)) ≡ parts_wide c (take (n + 1) ps) out
other_part c [] n p out less is some = absurd (omega (arith, less))
other_part c (q ∷ qs) zero p out less is some = absurd (omega (arith, some))
other_part c (q ∷ qs) (suc n) p out less is some =
    sym (ap (λ rs. parts_wide c rs out) (next_part (q ∷ qs) (suc n) p less is) ∙ more_parts c q (take n qs) p out)

-- ---- notes

remarks_end : (s : Style) (digits : ℕ) (ns : List Note) (n : Note) (out : Text)
    → remarks s digits (ns ++ n ∷ []) out ≡ remark_of s digits n.mark (string_bytes n.text) (remarks s digits ns out)
remarks_end s digits [] n out = refl
remarks_end s digits (m ∷ ms) n out =
    remarks_end s digits ms n (remark_of s digits m.mark (string_bytes m.text) out)

pub remarks_more : (s : Style) (digits : ℕ) (ns : List Note) (i : ℕ) (n : Note) (out : Text) → i < length ns
    → n ≡ get_or ns i n
    → remark_of s digits n.mark (string_bytes n.text) (remarks s digits (take i ns) out)
    ≡ remarks s digits (take (i + 1) ns) out
remarks_more s digits ns i n out less is =
    sym (ap (λ ms. remarks s digits ms out)
    (take_more ns i n less ∙ ap (λ m. take i ns ++ m ∷ []) (sym is)) ∙ remarks_end s digits (take i ns) n out)

notes_end : (s : Style) (colour : Text) (digits : ℕ) (source : Source) (ns : List Note) (n : Note)
    (before middle after : Text) → PrintsNotes s colour digits source ns before middle
    → PrintsNote s colour digits source n.mark (string_bytes n.text) middle after
    → PrintsNotes s colour digits source (ns ++ n ∷ []) before after
notes_end s colour digits source [] n before middle after same note =
    (after, subst (λ b. PrintsNote s colour digits source n.mark (string_bytes n.text) b after) same note, refl)
notes_end s colour digits source (m ∷ ms) n before middle after notes note =
    (notes.0, notes.1, notes_end s colour digits source ms n notes.0 middle after notes.2 note)

pub notes_more : (s : Style) (colour : Text) (digits : ℕ) (source : Source) (ns : List Note) (i : ℕ) (n : Note)
    (before middle after : Text) → i < length ns → n ≡ get_or ns i n
    → PrintsNotes s colour digits source (take i ns) before middle
    → PrintsNote s colour digits source n.mark (string_bytes n.text) middle after
    → PrintsNotes s colour digits source (take (i + 1) ns) before after
notes_more s colour digits source ns i n before middle after less is notes note =
    subst (λ ms. PrintsNotes s colour digits source ms before after)
    (sym (take_more ns i n less ∙ ap (λ m. take i ns ++ m ∷ []) (sym is)))
    (notes_end s colour digits source (take i ns) n before middle after notes note)

-- ---- a mark

-- its parts, one printed after the other
pub prints_mark : (s : Style) (colour : Text) (digits : ℕ) (source : Source) (m : Mark)
    (before there barred ended numbered shown below after : Text) (snippet : Snippet)
    → IsSnippetOf source.text.now m snippet → there ≡ place s digits source.name.now m before
    → barred ≡ edge s digits None there → ended ≡ written (codes "\n") barred
    → numbered ≡ edge s digits (Some m.line) ended → shown ≡ line snippet numbered → below ≡ edge s digits None shown
    → after ≡ carets s colour snippet below → PrintsMark s colour digits source m before after
prints_mark s colour digits source m before there barred ended numbered shown below after snippet shows a b c d e f g =
    record {
      snippet = snippet;
      shows = shows;
      printed = g ∙ ap (carets s colour snippet) (f ∙ ap (edge s digits None) (e ∙ ap (line snippet)
          (d ∙ ap (edge s digits (Some m.line)) (c ∙ ap (written (codes "\n")) (b ∙ ap (edge s digits None) a)))));
    }
