-- Parts of texts, by bytes and by characters.
use Rattle.std.proofs.Common.{◌≡◌, ◌∙◌, ◌+◌, ◌-◌, ◌≤◌, ℕ, suc, zero, List, [], ◌∷◌, ◌++◌, IsUtf8, Option, Some, None}
use Rattle.std.proofs.Common.{Bor}
use Rattle.std.proofs.Common.{add-one, ap, arith, drop, length, refl, subst, sym, take}
use Rattle.std.proofs.lemmas.List.{length-append, take-append-drop}
use Rattle.std.proofs.lemmas.List.{nil_from_length}
use Rattle.std.proofs.lemmas.Str.{IsCharBoundary-at_seam, IsCharBoundary-start, cons_from_encodes, encodes-append}
use Rattle.std.proofs.lemmas.Str.{encodes-chars, length-le-encodes}
use Rattle.std.proofs.Math.Seq.{take-append_seam}
use Rattle.std.specs.Char.{encode_utf8}
use Rattle.std.specs.Option.{unwrap_or}
use Rattle.std.specs.Prelude.{MatchOption, slice_range}
use Rattle.std.specs.Str.{IsCharBoundary, chars, encode_utf8_all}
use Rattle.std.specs.Str.Iter.{chars_rest}
use Rattle.std.specs.Str.Pattern.{GetsRange}
use Rattle.std.specs.declared.str.Chars.{Chars}
use Rattle.rhai_lower.specs.Texts.{Text}

-- a part that is asked for is there, where characters begin at both of its ends
pub got : (s : List ℕ) (i j : ℕ) (r : Option (Bor (List ℕ))) (d : Bor (List ℕ)) → GetsRange s i j r → i ≤ j
    → IsCharBoundary s i → IsCharBoundary s j → (unwrap_or r d).now ≡ slice_range s i j
got s i j None d h l a b = absurd (h l a b)
got s i j (Some x) d h l a b = h.0

-- ---- the first characters, and those after them

drop_empty : (n : ℕ) (cs : List ℕ) → drop n cs ≡ [] → drop (suc n) cs ≡ []
drop_empty n [] e = refl
drop_empty zero (c ∷ cs) e = absurd cc
drop_empty (suc n) (c ∷ cs) e = drop_empty n cs e

drop_next : (n : ℕ) (cs es : List ℕ) (c : ℕ) → drop n cs ≡ c ∷ es → drop (suc n) cs ≡ es
drop_next zero [] es c e = absurd cc
drop_next (suc n) [] es c e = absurd cc
drop_next zero (d ∷ cs) es c e = cc
drop_next (suc n) (d ∷ cs) es c e = drop_next n cs es c e

-- One more character is passed, if one is left.
pub passed_more : (cs : List ℕ) (old new : Chars) (n : ℕ) (r : Option ℕ)
    → chars_rest old ≡ encode_utf8_all (drop n cs)
    → MatchOption r ((length (chars_rest old) ≡ 0) × (new ≡ old))
    (λ c. chars_rest old ≡ encode_utf8 c ++ chars_rest new)
    → chars_rest new ≡ encode_utf8_all (drop (n + 1) cs)
passed_more cs old new n None e h =
    let l = length-le-encodes (drop n cs) in
    let f = ap length e in
    let empty = h.0 in
    let few : length (drop n cs) ≤ 0 = omega (arith, l, f, empty) in
    let none : drop n cs ≡ [] = nil_from_length (drop n cs) (omega arith) in
    ap chars_rest h.1 ∙ e ∙ ap encode_utf8_all (none ∙ sym (ap (λ m. drop m cs) (add-one n) ∙ drop_empty n cs none))
passed_more cs old new n (Some c) e h =
    let first = cons_from_encodes (drop n cs) (chars_rest new) c (sym e ∙ h) in
    sym first.2 ∙ ap encode_utf8_all (sym (ap (λ m. drop m cs) (add-one n) ∙ drop_next n cs first.0 c first.1))

-- a text is its first characters, and those after them
split_at : (text : Text) (n : ℕ) → IsUtf8 text
    → text ≡ encode_utf8_all (take n (chars text)) ++ encode_utf8_all (drop n (chars text))
split_at text n u =
    sym (sym (encodes-append (take n (chars text)) (drop n (chars text)))
    ∙ ap encode_utf8_all (take-append-drop n (chars text)) ∙ encodes-chars text u)

-- What is before a text's last bytes is its first characters, where those bytes are the others.
pub cut_front : (text after : Text) (n end : ℕ) (r : Option (Bor (List ℕ))) (d : Bor (List ℕ)) → IsUtf8 text
    → IsUtf8 after → after ≡ encode_utf8_all (drop n (chars text)) → end ≡ length text - length after
    → GetsRange text 0 end r → (unwrap_or r d).now ≡ encode_utf8_all (take n (chars text))
cut_front text after n end r d u v a e g =
    let front = encode_utf8_all (take n (chars text)) in
    let whole : text ≡ front ++ after = split_at text n u ∙ ap (λ t. front ++ t) (sym a) in
    let long : length text ≡ length front + length after = ap length whole ∙ length-append front after in
    let here : end ≡ length front = omega (arith, e, long) in
    let front_only : end - 0 ≡ length front = omega arith in
    let seam : IsCharBoundary text end =
    subst (IsCharBoundary text) (sym here) (IsCharBoundary-at_seam text front after whole v) in
    got text 0 end r d g (omega arith) (IsCharBoundary-start text u) seam
    ∙ ap (λ n. take n text) front_only ∙ ap (take (length front)) whole ∙ take-append_seam front after
