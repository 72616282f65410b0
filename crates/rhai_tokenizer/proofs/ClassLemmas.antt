-- Tables of bytes by class.
use Rattle.std.proofs.Common.{◌≡◌, ℕ, ◌<◌, Bool, true, false, not, ◌&&◌, ◌||◌, ◌==◌, nat_lt, [], ◌∷◌, get_or, refl, sym, ap, ◌∙◌, arith, true≢false}
use Rattle.std.proofs.lemmas.Bool.Decides.{nat_tests}
use Rattle.std.specs.Prelude.{slice_index}
use Rattle.rhai_lower.specs.Texts.{Text}
use Rattle.rhai_tokenizer.specs.Bytes.{begins}
use Rattle.std.proofs.lemmas.Bool.{agree_below, agree_below_at, and_parts, eqb-true, ltb-true, not-true}
use Rattle.rhai_lower.specs.Names.{is_word}
use Rattle.rhai_tokenizer.specs.declared.class.First.{First}
use Rattle.rhai_tokenizer.specs.declared.class.First.TheVariants as first
use Rattle.rhai_tokenizer.specs.declared.class.TheConstants.{BYTES}
use Rattle.rhai_tokenizer.specs.Cutting.{first_class, is_second, is_space}
use Rattle.rhai_tokenizer.proofs.TableLemmas.{is_blank_class}

word_bytes : agree_below (λ b. get_or BYTES b 0 == 1) is_word 256 ≡ true
word_bytes = refl

pub word_byte : (b : ℕ) → b < 256 → (get_or BYTES b 0 == 1) ≡ is_word b
word_byte b h = agree_below_at (λ b. get_or BYTES b 0 == 1) is_word 256 b word_bytes h

second_bytes : agree_below (λ b. get_or BYTES b 0 == 2) is_second 256 ≡ true
second_bytes = refl

pub second_byte : (b : ℕ) → b < 256 → (get_or BYTES b 0 == 2) ≡ is_second b
second_byte b h = agree_below_at (λ b. get_or BYTES b 0 == 2) is_second 256 b second_bytes h

-- the class of white space of one byte
abbrev is_space_class : First → Bool
is_space_class first.Space = true
is_space_class k = false

space_classes : agree_below (λ b. is_space_class (first_class b)) is_space 256 ≡ true
space_classes = refl

pub space_byte : (b : ℕ) → b < 256 → is_space b ≡ true → first.Space ≡ first_class b
space_byte b h e = by (first_class b) (agree_below_at (λ b. is_space_class (first_class b)) is_space 256 b
    space_classes h ∙ e)
  where
    by : (k : First) → is_space_class k ≡ true → first.Space ≡ k
    by first.Space e = refl
    by first.Letter e = absurd (true≢false (sym e))
    by first.Digit e = absurd (true≢false (sym e))
    by first.Far e = absurd (true≢false (sym e))
    by first.Quote e = absurd (true≢false (sym e))
    by first.Tick e = absurd (true≢false (sym e))
    by first.Apostrophe e = absurd (true≢false (sym e))
    by first.Slash e = absurd (true≢false (sym e))
    by first.Bang e = absurd (true≢false (sym e))
    by first.Minus e = absurd (true≢false (sym e))
    by first.Hash e = absurd (true≢false (sym e))
    by first.Other e = absurd (true≢false (sym e))

abbrev is_hash : First → Bool
is_hash first.Hash = true
is_hash k = false

pub other_hash : (c : ℕ) → first.Other ≡ first_class c → (c == 35) ≡ false
other_hash c e = by (c == 35) refl
  where
    by : (b : Bool) → (c == 35) ≡ b → b ≡ false
    by false h = refl
    by true h = absurd (true≢false (sym (ap is_hash (e ∙ ap first_class (eqb-true c 35 h)))))

-- the class of the byte with which white space of one byte begins
pub space_begins : (t : Text) → begins is_space t ≡ true → first.Space ≡ first_class (slice_index t 0)
space_begins [] h = absurd (true≢false (sym h))
space_begins (c ∷ t) h = space_byte c (small c h) h
  where
    small : (c : ℕ) → is_space c ≡ true → c < 256
    small c h = grind (arith, nat_tests)

blank_bytes : agree_below (λ b. is_blank_class (first_class b)) is_space 128 ≡ true
blank_bytes = refl

-- no white space begins with another byte
pub other_byte : (b : ℕ) → b < 128 → is_space b ≡ false → is_blank_class (first_class b) ≡ false
other_byte b h e = agree_below_at (λ b. is_blank_class (first_class b)) is_space 128 b blank_bytes h ∙ e

-- a byte that goes on with a word or a symbol is no white space
usual_bytes : agree_below (λ b. get_or BYTES b 0 == 0 || (not (is_space b) && nat_lt b 128)) (λ b. true) 256 ≡ true
usual_bytes = refl

pub usual_byte : (b : ℕ) → b < 256 → (get_or BYTES b 0 == 0) ≡ false → (is_space b ≡ false) × (b < 128)
usual_byte b h e =
    let all = agree_below_at (λ b. get_or BYTES b 0 == 0 || (not (is_space b) && nat_lt b 128)) (λ b. true) 256 b
    usual_bytes h in
    let (space, small) = and_parts (not (is_space b)) (nat_lt b 128)
    (sym (ap (λ x. x || (not (is_space b) && nat_lt b 128)) e) ∙ all) in
    (not-true (is_space b) space, ltb-true b 128 small)
