-- What begins with a byte, as the table of leads says it.
use Rattle.std.proofs.Common.{◌≡◌, ℕ, zero, suc, ◌+◌, ◌<◌, ◌≤◌, length, Bool, true, false, cond, not, ◌&&◌, ◌==◌, List, [], ◌∷◌, map, get_or, Option, Some, None, refl, sym, ap, ◌∙◌, subst, arith, true≢false, drop}
use Rattle.std.proofs.lemmas.Bool.{eqb-true}
use Rattle.std.specs.Prelude.{slice_index}
use Rattle.rhai_lower.specs.Texts.{Text, same_text}
use Rattle.rhai_tokenizer.specs.declared.braces.Brace.TheVariants as brace
use Rattle.rhai_tokenizer.specs.declared.class.First.{First}
use Rattle.rhai_tokenizer.specs.declared.class.First.TheVariants as first
use Rattle.rhai_tokenizer.specs.declared.lead.Lead.{Lead}
use Rattle.rhai_tokenizer.specs.declared.lead.Lead.TheVariants as lead
use Rattle.rhai_tokenizer.specs.declared.lexer.Kind.{Kind}
use Rattle.rhai_tokenizer.specs.declared.lexer.Kind.TheVariants as kind
use Rattle.rhai_tokenizer.specs.declared.table.Fixed.{Fixed}
use Rattle.rhai_tokenizer.specs.declared.table.Fixed.TheVariants as fixed
use Rattle.rhai_tokenizer.specs.declared.table.Meaning.{Meaning}
use Rattle.rhai_tokenizer.specs.declared.table.Meaning.TheVariants.{Plain, Held, Refused}
use Rattle.rhai_tokenizer.specs.Bytes.{begins, begins_with}
use Rattle.rhai_tokenizer.specs.Cutting.{cut_entry, entry_cut, first_class, goes_on, is_closer, is_second, lead_in, lead_of, lead_table, plain_lead, symbol_lead}
use Rattle.rhai_tokenizer.specs.Tables.{entry_of, symbol_table}
use Rattle.rhai_tokenizer.specs.CuttingMeanings.{IsAlone, IsPair}
use Rattle.rhai_tokenizer.specs.Meanings.{brace_of_symbol}
use Rattle.rhai_tokenizer.proofs.ByteLemmas.{same_is}
use Rattle.rhai_tokenizer.proofs.ClassLemmas.{other_hash}
use Rattle.rhai_tokenizer.proofs.SymbolLemmas.{lone_cut}

-- so many numbers, from this one on
abbrev upto : (from n : ℕ) → List ℕ
upto from zero = []
upto from (suc n) = from ∷ upto (suc from) n

leads_right : map lead_of (upto 0 256) ≡ lead_table
unfolding lead_of lead_table symbol_table
leads_right = refl

mapped_at : (f : ℕ → Lead) (from n i : ℕ) (d : Lead) → i < n → get_or (map f (upto from n)) i d ≡ f (from + i)
mapped_at f from zero i d h = absurd (omega arith)
mapped_at f from (suc n) zero d h = let e : from ≡ from + 0 = omega arith in ap f e
mapped_at f from (suc n) (suc i) d h =
    let e : suc from + i ≡ from + suc i = omega arith in
    mapped_at f (suc from) n i d (omega arith) ∙ ap f e

pub lead_at : (b : ℕ) (d : Lead) → b < 256 → get_or lead_table b d ≡ lead_of b
lead_at b d h =
    let e : 0 + b ≡ b = omega arith in
    ap (λ xs. get_or xs b d) (sym leads_right) ∙ (mapped_at lead_of 0 256 b d h ∙ ap lead_of e)

-- ---- what a lead says of the byte

abbrev is_word : Lead → Bool
is_word lead.Word = true
is_word l = false

abbrev is_blank : Lead → Bool
is_blank lead.Blank = true
is_blank l = false

abbrev is_brace : Lead → Bool
is_brace lead.Brace = true
is_brace l = false

abbrev is_end : Lead → Bool
is_end lead.End = true
is_end l = false

abbrev is_digit : Lead → Bool
is_digit lead.Digit = true
is_digit l = false

-- what holds of no symbol, brace or other byte
not_symbol : (p : Lead → Bool) (c : ℕ) (a b d : Bool) (o : Option (Text × Meaning)) → p lead.Brace ≡ false
    → p lead.End ≡ false → p lead.Other ≡ false → ((f : Fixed) → p (lead.Closer f) ≡ false) → ((f : Fixed) → p
    (lead.Sign f) ≡ false)
    → p (cond a lead.Brace (cond b lead.End (cond d lead.Other (symbol_lead c o)))) ≡ false
not_symbol p c true b d o br en ot cl si = br
not_symbol p c false true d o br en ot cl si = en
not_symbol p c false false true o br en ot cl si = ot
not_symbol p c false false false None br en ot cl si = ot
not_symbol p c false false false (Some e) br en ot cl si = by (same_text e.0 (c ∷ [])) e.1 (is_closer c)
  where
    by : (a : Bool) (m : Meaning) (b : Bool) → p (cond a (plain_lead c m) lead.Other) ≡ false
    by false m b = ot
    by true Held b = ot
    by true (Refused n) b = ot
    by true (Plain k) b = kind (is_closer c) k
      where
        kind : (b : Bool) (k : Fixed) → p (cond b (lead.Closer k) (lead.Sign k)) ≡ false
        kind true k = cl k
        kind false k = si k

pub word_lead : (c : ℕ) → lead.Word ≡ lead_of c → first.Letter ≡ first_class c
unfolding lead_of
word_lead c e = by (first_class c) (ap is_word e)
  where
    by : (k : First) → true ≡ is_word (lead_in k c) → first.Letter ≡ k
    by first.Letter e = refl
    by first.Other e = absurd (true≢false (e ∙ not_symbol is_word c (c == 123) (c == 125) (c == 43)
        (entry_of symbol_table (c ∷ [])) refl refl refl (λ f. refl) (λ f. refl)))
    by first.Space e = absurd (true≢false e)
    by first.Digit e = absurd (true≢false e)
    by first.Far e = absurd (true≢false e)
    by first.Quote e = absurd (true≢false e)
    by first.Tick e = absurd (true≢false e)
    by first.Apostrophe e = absurd (true≢false e)
    by first.Slash e = absurd (true≢false e)
    by first.Bang e = absurd (true≢false e)
    by first.Minus e = absurd (true≢false e)
    by first.Hash e = absurd (true≢false e)

pub blank_lead : (c : ℕ) → lead.Blank ≡ lead_of c → first.Space ≡ first_class c
unfolding lead_of
blank_lead c e = by (first_class c) (ap is_blank e)
  where
    by : (k : First) → true ≡ is_blank (lead_in k c) → first.Space ≡ k
    by first.Space e = refl
    by first.Other e = absurd (true≢false (e ∙ not_symbol is_blank c (c == 123) (c == 125) (c == 43)
        (entry_of symbol_table (c ∷ [])) refl refl refl (λ f. refl) (λ f. refl)))
    by first.Letter e = absurd (true≢false e)
    by first.Digit e = absurd (true≢false e)
    by first.Far e = absurd (true≢false e)
    by first.Quote e = absurd (true≢false e)
    by first.Tick e = absurd (true≢false e)
    by first.Apostrophe e = absurd (true≢false e)
    by first.Slash e = absurd (true≢false e)
    by first.Bang e = absurd (true≢false e)
    by first.Minus e = absurd (true≢false e)
    by first.Hash e = absurd (true≢false e)

-- where the table of symbols is asked, no brace leads
symbol_only : (p : Lead → Bool) (c : ℕ) (d : Bool) (o : Option (Text × Meaning)) → p lead.Other ≡ false
    → ((f : Fixed) → p (lead.Closer f) ≡ false) → ((f : Fixed) → p (lead.Sign f) ≡ false)
    → p (cond d lead.Other (symbol_lead c o)) ≡ false
symbol_only p c true o ot cl si = ot
symbol_only p c false None ot cl si = ot
symbol_only p c false (Some e) ot cl si = by (same_text e.0 (c ∷ [])) e.1
  where
    by : (a : Bool) (m : Meaning) → p (cond a (plain_lead c m) lead.Other) ≡ false
    by false m = ot
    by true Held = ot
    by true (Refused n) = ot
    by true (Plain k) = kind (is_closer c)
      where
        kind : (b : Bool) → p (cond b (lead.Closer k) (lead.Sign k)) ≡ false
        kind true = cl k
        kind false = si k

pub brace_lead : (c : ℕ) → lead.Brace ≡ lead_of c → (c == 123) ≡ true
unfolding lead_of
brace_lead c e = by (first_class c) (ap is_brace e)
  where
    only : (a b d : Bool) (o : Option (Text × Meaning))
        → true ≡ is_brace (cond a lead.Brace (cond b lead.End (cond d lead.Other (symbol_lead c o)))) → a ≡ true
    only true b d o e = refl
    only false true d o e = absurd (true≢false e)
    only false false d o e = absurd (true≢false (e ∙ symbol_only is_brace c d o refl (λ f. refl) (λ f. refl)))

    by : (k : First) → true ≡ is_brace (lead_in k c) → (c == 123) ≡ true
    by first.Other e = only (c == 123) (c == 125) (c == 43) (entry_of symbol_table (c ∷ [])) e
    by first.Letter e = absurd (true≢false e)
    by first.Space e = absurd (true≢false e)
    by first.Digit e = absurd (true≢false e)
    by first.Far e = absurd (true≢false e)
    by first.Quote e = absurd (true≢false e)
    by first.Tick e = absurd (true≢false e)
    by first.Apostrophe e = absurd (true≢false e)
    by first.Slash e = absurd (true≢false e)
    by first.Bang e = absurd (true≢false e)
    by first.Minus e = absurd (true≢false e)
    by first.Hash e = absurd (true≢false e)

pub end_lead : (c : ℕ) → lead.End ≡ lead_of c → (c == 125) ≡ true
unfolding lead_of
end_lead c e = by (first_class c) (ap is_end e)
  where
    only : (a b d : Bool) (o : Option (Text × Meaning))
        → true ≡ is_end (cond a lead.Brace (cond b lead.End (cond d lead.Other (symbol_lead c o)))) → b ≡ true
    only true b d o e = absurd (true≢false e)
    only false true d o e = refl
    only false false d o e = absurd (true≢false (e ∙ symbol_only is_end c d o refl (λ f. refl) (λ f. refl)))

    by : (k : First) → true ≡ is_end (lead_in k c) → (c == 125) ≡ true
    by first.Other e = only (c == 123) (c == 125) (c == 43) (entry_of symbol_table (c ∷ [])) e
    by first.Letter e = absurd (true≢false e)
    by first.Space e = absurd (true≢false e)
    by first.Digit e = absurd (true≢false e)
    by first.Far e = absurd (true≢false e)
    by first.Quote e = absurd (true≢false e)
    by first.Tick e = absurd (true≢false e)
    by first.Apostrophe e = absurd (true≢false e)
    by first.Slash e = absurd (true≢false e)
    by first.Bang e = absurd (true≢false e)
    by first.Minus e = absurd (true≢false e)
    by first.Hash e = absurd (true≢false e)

pub digit_lead : (c : ℕ) → lead.Digit ≡ lead_of c → first.Digit ≡ first_class c
unfolding lead_of
digit_lead c e = by (first_class c) (ap is_digit e)
  where
    by : (k : First) → true ≡ is_digit (lead_in k c) → first.Digit ≡ k
    by first.Digit e = refl
    by first.Other e = absurd (true≢false (e ∙ not_symbol is_digit c (c == 123) (c == 125) (c == 43)
        (entry_of symbol_table (c ∷ [])) refl refl refl (λ f. refl) (λ f. refl)))
    by first.Letter e = absurd (true≢false e)
    by first.Space e = absurd (true≢false e)
    by first.Far e = absurd (true≢false e)
    by first.Quote e = absurd (true≢false e)
    by first.Tick e = absurd (true≢false e)
    by first.Apostrophe e = absurd (true≢false e)
    by first.Slash e = absurd (true≢false e)
    by first.Bang e = absurd (true≢false e)
    by first.Minus e = absurd (true≢false e)
    by first.Hash e = absurd (true≢false e)

-- the symbol of a lead
abbrev pub fixed_in : Lead → Option Fixed
fixed_in (lead.Closer f) = Some f
fixed_in (lead.Sign f) = Some f
fixed_in l = None

-- what is known of a byte that leads with a symbol
record Leads (c : ℕ) (f : Fixed) : Type 0 where
  class : first.Other ≡ first_class c
  entry : entry_of symbol_table (c ∷ []) ≡ Some (c ∷ [], Plain f)
  opens : (c == 123) ≡ false
  ends : (c == 125) ≡ false
  adds : (c == 43) ≡ false

leads_in : (c : ℕ) (f : Fixed) (a b d : Bool) (o : Option (Text × Meaning)) → first.Other ≡ first_class c
    → (c == 123) ≡ a → (c == 125) ≡ b → (c == 43) ≡ d → entry_of symbol_table (c ∷ []) ≡ o
    → Some f ≡ fixed_in (cond a lead.Brace (cond b lead.End (cond d lead.Other (symbol_lead c o)))) → Leads c f
leads_in c f true b d o k x y v z e = absurd cc
leads_in c f false true d o k x y v z e = absurd cc
leads_in c f false false true o k x y v z e = absurd cc
leads_in c f false false false None k x y v z e = absurd cc
leads_in c f false false false (Some (s, m)) k x y v z e = by (same_text s (c ∷ [])) m refl z e
  where
    by : (a : Bool) (m : Meaning) → same_text s (c ∷ []) ≡ a → entry_of symbol_table (c ∷ []) ≡ Some (s, m)
        → Some f ≡ fixed_in (cond a (plain_lead c m) lead.Other) → Leads c f
    by false m h z e = absurd cc
    by true Held h z e = absurd cc
    by true (Refused n) h z e = absurd cc
    by true (Plain g) h z e = kind (is_closer c) e
      where
        same : f ≡ g → Leads c f
        same is = record {
          class = k;
          entry = z ∙ (ap (λ s. Some (s, Plain g)) (same_is s (c ∷ []) h) ∙ ap (λ g. Some (c ∷ [], Plain g)) (sym is));
          opens = x;
          ends = y;
          adds = v;
        }

        kind : (b : Bool) → Some f ≡ fixed_in (cond b (lead.Closer g) (lead.Sign g)) → Leads c f
        kind true e = same cc
        kind false e = same cc

leads_of : (c : ℕ) (f : Fixed) → Some f ≡ fixed_in (lead_of c) → Leads c f
unfolding lead_of
leads_of c f e = by (first_class c) refl e
  where
    by : (k : First) → first_class c ≡ k → Some f ≡ fixed_in (lead_in k c) → Leads c f
    by first.Other k e = leads_in c f (c == 123) (c == 125) (c == 43) (entry_of symbol_table (c ∷ [])) (sym k) refl
        refl refl refl e
    by first.Letter k e = absurd cc
    by first.Space k e = absurd cc
    by first.Digit k e = absurd cc
    by first.Far k e = absurd cc
    by first.Quote k e = absurd cc
    by first.Tick k e = absurd cc
    by first.Apostrophe k e = absurd cc
    by first.Slash k e = absurd cc
    by first.Bang k e = absurd cc
    by first.Minus k e = absurd cc
    by first.Hash k e = absurd cc

abbrev is_closing : Lead → Bool
is_closing (lead.Closer f) = true
is_closing l = false

closing_in : (c : ℕ) (a b d : Bool) (o : Option (Text × Meaning))
    → true ≡ is_closing (cond a lead.Brace (cond b lead.End (cond d lead.Other (symbol_lead c o)))) → is_closer c ≡ true
closing_in c true b d o e = absurd (true≢false e)
closing_in c false true d o e = absurd (true≢false e)
closing_in c false false true o e = absurd (true≢false e)
closing_in c false false false None e = absurd (true≢false e)
closing_in c false false false (Some (s, m)) e = by (same_text s (c ∷ [])) m e
  where
    by : (a : Bool) (m : Meaning) → true ≡ is_closing (cond a (plain_lead c m) lead.Other) → is_closer c ≡ true
    by false m e = absurd (true≢false e)
    by true Held e = absurd (true≢false e)
    by true (Refused n) e = absurd (true≢false e)
    by true (Plain g) e = kind (is_closer c) e
      where
        kind : (b : Bool) → true ≡ is_closing (cond b (lead.Closer g) (lead.Sign g)) → b ≡ true
        kind true e = refl
        kind false e = absurd (true≢false e)

closing_of : (c : ℕ) → true ≡ is_closing (lead_of c) → is_closer c ≡ true
unfolding lead_of
closing_of c e = by (first_class c) e
  where
    by : (k : First) → true ≡ is_closing (lead_in k c) → is_closer c ≡ true
    by first.Other e = closing_in c (c == 123) (c == 125) (c == 43) (entry_of symbol_table (c ∷ [])) e
    by first.Letter e = absurd (true≢false e)
    by first.Space e = absurd (true≢false e)
    by first.Digit e = absurd (true≢false e)
    by first.Far e = absurd (true≢false e)
    by first.Quote e = absurd (true≢false e)
    by first.Tick e = absurd (true≢false e)
    by first.Apostrophe e = absurd (true≢false e)
    by first.Slash e = absurd (true≢false e)
    by first.Bang e = absurd (true≢false e)
    by first.Minus e = absurd (true≢false e)
    by first.Hash e = absurd (true≢false e)

-- ---- a symbol of one byte

no_minus : (c : ℕ) → first.Other ≡ first_class c → (c == 45) ≡ false
no_minus c e = by (c == 45) refl
  where
    is_minus : First → Bool
    is_minus first.Minus = true
    is_minus k = false

    by : (b : Bool) → (c == 45) ≡ b → b ≡ false
    by false h = refl
    by true h = absurd (true≢false (sym (ap is_minus (e ∙ ap first_class (eqb-true c 45 h)))))

alone_of : (c : ℕ) (t : Text) (f : Fixed) → goes_on c t ≡ false → Leads c f → IsAlone c t f
alone_of c t f g l = record {
  class = l.class;
  cut = lone_cut c t f (other_hash c l.class) g l.entry;
  sign = rw (l.adds, no_minus c l.class) refl;
}

pub closer_alone : (c : ℕ) (t : Text) (f : Fixed) → lead.Closer f ≡ lead_of c → IsAlone c t f
closer_alone c t f e = alone_of c t f (rw (closing_of c (ap is_closing e)) refl) (leads_of c f (ap fixed_in e))

pub sign_alone : (c : ℕ) (t : Text) (f : Fixed) → begins is_second t ≡ false → lead.Sign f ≡ lead_of c → IsAlone c t f
sign_alone c t f g e = alone_of c t f (by (is_closer c) (begins is_second t) g) (leads_of c f (ap fixed_in e))
  where
    by : (a b : Bool) → b ≡ false → (not a && b) ≡ false
    by true b h = refl
    by false b h = h

-- it changes no braces
pub keeps_braces : (c : ℕ) (f : Fixed) → Some f ≡ fixed_in (lead_of c) → brace_of_symbol (c ∷ []) ≡ brace.Stays
keeps_braces c f e = let l = leads_of c f e in rw (l.opens, l.ends) (by (c == 35))
  where
    by : (b : Bool) → cond (b && false) brace.Opens brace.Stays ≡ brace.Stays
    by true = refl
    by false = refl

-- a `{`
pub brace_alone : (t : Text) → IsAlone 123 t fixed.LeftBrace
unfolding symbol_table
brace_alone t = record { class = refl; cut = lone_cut 123 t fixed.LeftBrace refl refl refl; sign = refl }

pub brace_begins : (t : Text) → (slice_index t 0 == 123) ≡ true → begins (λ c. c == 123) t ≡ true
brace_begins [] h = absurd (true≢false (sym h))
brace_begins (c ∷ t) h = h

-- a `}`
pub end_alone : (t : Text) → IsAlone 125 t fixed.RightBrace
unfolding symbol_table
end_alone t = record { class = refl; cut = lone_cut 125 t fixed.RightBrace refl refl refl; sign = refl }

pub end_begins : (t : Text) → (slice_index t 0 == 125) ≡ true → begins (λ c. c == 125) t ≡ true
end_begins [] h = absurd (true≢false (sym h))
end_begins (c ∷ t) h = h

-- ---- symbols of two bytes

pub unit_pair : (t : Text) → IsPair 40 (41 ∷ t) fixed.Unit
unfolding symbol_table
unit_pair t = record { class = refl; cut = refl; minus = refl; plus = refl; brace = refl }

pub arrow_pair : (t : Text) → IsPair 61 (62 ∷ t) fixed.DoubleArrow
unfolding symbol_table
arrow_pair t = record { class = refl; cut = refl; minus = refl; plus = refl; brace = refl }

pub colon_pair : (t : Text) → begins_with (60 ∷ []) t ≡ false → IsPair 58 (58 ∷ t) fixed.DoubleColon
unfolding symbol_table
colon_pair [] h = record { class = refl; cut = refl; minus = refl; plus = refl; brace = refl }
colon_pair (c ∷ t) h = record { class = refl; cut = by (c == 60 && true) h; minus = refl; plus = refl; brace = refl }
  where
    by : (b : Bool) → b ≡ false → ◌≡◌ {A = Kind × ℕ} (kind.Symbol (Plain fixed.DoubleColon), 2)
        (entry_cut (cut_entry (cond b (Some (58 ∷ 58 ∷ 60 ∷ [], Refused 6)) (Some (
          58 ∷ 58 ∷ [],
          Plain
              fixed.DoubleColon,
        ))))
        (58 ∷ c ∷ t))
    by true h = absurd (true≢false h)
    by false h = refl

-- a text from its first byte
pub from_first : (z : Text) (d : ℕ) → 1 ≤ length z → get_or z 0 0 ≡ d → z ≡ d ∷ drop 1 z
from_first [] d h e = absurd (omega arith)
from_first (c ∷ z) d h e = ap (λ c. c ∷ z) e

pub pair_is : (a b x y : ℕ) (f : Fixed) (t : Text) → a ≡ x → b ≡ y → IsPair x (y ∷ t) f → IsPair a (b ∷ t) f
pair_is a b x y f t e g p =
    subst (λ (a : ℕ). IsPair a (b ∷ t) f) (sym e) (subst (λ (b : ℕ). IsPair x (b ∷ t) f) (sym g) p)
