-- What the class of a byte says of what begins with it.
use Rattle.std.proofs.Common.{◌≡◌, ℕ, Bool, true, false, cond, ◌==◌, nat_le, refl, sym, ◌∙◌, subst, arith, true≢false}
use Rattle.std.proofs.lemmas.Bool.{or_from, eqb-true}
use Rattle.std.proofs.lemmas.Bool.Decides.{nat_tests}
use Rattle.std.specs.Char.{is_ascii_digit}
use Rattle.rhai_tokenizer.specs.declared.class.First.{First}
use Rattle.rhai_tokenizer.specs.declared.class.First.TheVariants as first
use Rattle.rhai_tokenizer.specs.Bytes.{is_letter}
use Rattle.rhai_tokenizer.specs.Pieces.{is_quote}
use Rattle.rhai_tokenizer.specs.Cutting.{first_class}
use Rattle.rhai_tokenizer.proofs.TableLemmas.{is_near}

-- ---- classes

-- no class was found before
pub record IsOther (c : ℕ) : Type 0 where
  pub letter : is_letter c ≡ false
  pub digit : is_ascii_digit c ≡ false
  pub near : is_near c ≡ false
  pub far : nat_le 128 c ≡ false
  pub quote : is_quote c ≡ false
  pub slash : (c == 47) ≡ false
  pub bang : (c == 33) ≡ false
  pub minus : (c == 45) ≡ false
  pub hash : (c == 35) ≡ false

-- what a class says of a byte
abbrev pub ClassFacts : ℕ → First → Type 0
ClassFacts c first.Letter = is_letter c ≡ true
ClassFacts c first.Digit = is_ascii_digit c ≡ true
ClassFacts c first.Space = is_near c ≡ true
ClassFacts c first.Far = nat_le 128 c ≡ true
ClassFacts c first.Quote = (c == 34) ≡ true
ClassFacts c first.Tick = (c == 96) ≡ true
ClassFacts c first.Apostrophe = (c == 39) ≡ true
ClassFacts c first.Slash = (c == 47) ≡ true
ClassFacts c first.Bang = (c == 33) ≡ true
ClassFacts c first.Minus = (c == 45) ≡ true
ClassFacts c first.Hash = (c == 35) ≡ true
ClassFacts c first.Other = IsOther c

pub class_facts : (c : ℕ) → ClassFacts c (first_class c)
class_facts c = by (is_letter c) (is_ascii_digit c) (is_near c) (nat_le 128 c) (c == 34) (c == 96) (c == 39) (c == 47)
    (c == 33) (c == 45) (c == 35) refl refl refl refl refl refl refl refl refl refl refl
  where
    by : (b0 b1 b2 b3 b4 b5 b6 b7 b8 b9 b10 : Bool) → (is_letter c) ≡ b0 → (is_ascii_digit c) ≡ b1 → (is_near c) ≡ b2
        → (nat_le 128 c) ≡ b3 → (c == 34) ≡ b4 → (c == 96) ≡ b5 → (c == 39) ≡ b6 → (c == 47) ≡ b7 → (c == 33) ≡ b8
        → (c == 45) ≡ b9 → (c == 35) ≡ b10
        → ClassFacts c (cond b0 first.Letter (cond b1 first.Digit
        (cond b2 first.Space (cond b3 first.Far
        (cond b4 first.Quote (cond b5 first.Tick
        (cond b6 first.Apostrophe (cond b7 first.Slash
        (cond b8 first.Bang (cond b9 first.Minus (cond b10 first.Hash first.Other)))))))))))
    by true b1 b2 b3 b4 b5 b6 b7 b8 b9 b10 e0 e1 e2 e3 e4 e5 e6 e7 e8 e9 e10 = e0
    by false true b2 b3 b4 b5 b6 b7 b8 b9 b10 e0 e1 e2 e3 e4 e5 e6 e7 e8 e9 e10 = e1
    by false false true b3 b4 b5 b6 b7 b8 b9 b10 e0 e1 e2 e3 e4 e5 e6 e7 e8 e9 e10 = e2
    by false false false true b4 b5 b6 b7 b8 b9 b10 e0 e1 e2 e3 e4 e5 e6 e7 e8 e9 e10 = e3
    by false false false false true b5 b6 b7 b8 b9 b10 e0 e1 e2 e3 e4 e5 e6 e7 e8 e9 e10 = e4
    by false false false false false true b6 b7 b8 b9 b10 e0 e1 e2 e3 e4 e5 e6 e7 e8 e9 e10 = e5
    by false false false false false false true b7 b8 b9 b10 e0 e1 e2 e3 e4 e5 e6 e7 e8 e9 e10 = e6
    by false false false false false false false true b8 b9 b10 e0 e1 e2 e3 e4 e5 e6 e7 e8 e9 e10 = e7
    by false false false false false false false false true b9 b10 e0 e1 e2 e3 e4 e5 e6 e7 e8 e9 e10 = e8
    by false false false false false false false false false true b10 e0 e1 e2 e3 e4 e5 e6 e7 e8 e9 e10 = e9
    by false false false false false false false false false false true e0 e1 e2 e3 e4 e5 e6 e7 e8 e9 e10 = e10
    by false false false false false false false false false false false e0 e1 e2 e3 e4 e5 e6 e7 e8 e9 e10 = record {
      letter = e0;
      digit = e1;
      near = e2;
      far = e3;
      quote = or_from _ _ e4 (or_from _ _ e5 e6);
      slash = e7;
      bang = e8;
      minus = e9;
      hash = e10;
    }

differ : (a b c : ℕ) → (a == b) ≡ false → (c == a) ≡ true → (c == b) ≡ true → ⊥
differ a b c ne e f =
    let same : a ≡ b = sym (eqb-true c a e) ∙ eqb-true c b f in
    true≢false (sym (subst (λ (x : ℕ). (a == x) ≡ true) same (refl_eq a)) ∙ ne)
  where
    refl_eq : (a : ℕ) → (a == a) ≡ true
    refl_eq a = grind (arith, nat_tests)
