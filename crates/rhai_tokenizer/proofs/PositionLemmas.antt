-- The line and column after a text.
use Rattle.std.proofs.Common.{◌≡◌, ℕ, ◌+◌, ◌-◌, Bool, true, false, cond, ◌==◌, nat_lt, [], ◌∷◌, ◌++◌, length, take, drop, lit<, refl, sym, ap, ◌∙◌, arith}
use Rattle.std.proofs.lemmas.List.{take_rest}
use Rattle.std.proofs.Math.Seq.{take-add}
use Rattle.rhai_lower.specs.Texts.{Text}
use Rattle.rhai_tokenizer.specs.declared.place.Place.{Place}
use Rattle.rhai_tokenizer.specs.Bytes.{is_continuation}
use Rattle.rhai_tokenizer.specs.Places.{at_line, past, past_byte}
use Rattle.rhai_tokenizer.specs.declared.place.Line.{Line}
use Rattle.rhai_tokenizer.specs.Turns.{IsIn, IsPlace, place_in}

pub past-append : (s : Text) (p : Place) (t : Text) → past p (s ++ t) ≡ past (past p s) t
past-append [] p t = refl
past-append (c ∷ s) p t = past-append s _ t

-- the place after a longer front
pub past_more : (place here next : Place) (z : Text) (at n : ℕ) → here ≡ past place (take at z)
    → next ≡ past here (take n (take (length z - at) (drop at z))) → next ≡ past place (take (at + n) z)
past_more place here next z at n h e =
    e ∙ (ap (λ x. past here (take n x)) (take_rest z at) ∙ (ap (λ p. past p (take n (drop at z))) h
    ∙ (sym (past-append (take at z) place (take n (drop at z))) ∙ ap (past place) (sym (take-add at n z)))))

past_byte_place : (p : Place) (c : ℕ) → IsPlace p → IsPlace (past_byte p c)
past_byte_place p c (l, k) = by (c == 10) (nat_lt p.line 65535) (is_continuation c) (nat_lt p.column 65535)
  where
    by : (a b d e : Bool) → IsPlace (cond a (cond b (at_line (p.line + 1) 1) p)
        (cond d p (cond e (at_line p.line (p.column + 1)) p)))
    by true true d e = (omega arith, lit< tt)
    by true false d e = (l, k)
    by false b true e = (l, k)
    by false b false true = (l, omega arith)
    by false b false false = (l, k)

pub past_place : (t : Text) (p : Place) → IsPlace p → IsPlace (past p t)
past_place [] p h = h
past_place (c ∷ t) p h = past_place t (past_byte p c) (past_byte_place p c h)

-- a line and a column in it are counted from 1
pub in_place : (l : Line) (at : ℕ) → IsIn l at → IsPlace (place_in l at)
in_place l at (h, k) = (h, omega arith)
