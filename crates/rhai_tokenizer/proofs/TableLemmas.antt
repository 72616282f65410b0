-- Facts about the tables, by computing them.
use Rattle.std.proofs.Common.{◌≡◌, ℕ, Bool, true, false, not, ◌&&◌, ◌||◌, [], ◌∷◌, ◌++◌, refl, sym}
use Rattle.std.proofs.lemmas.Bool.{not-true}
use Rattle.std.specs.List.{list_all}
use Rattle.rhai_lower.specs.Texts.{Text, same_text}
use Rattle.rhai_lower.specs.Names.{is_one_of}
use Rattle.rhai_tokenizer.specs.Bytes.{begins_any, is_empty, blanks, spaces}
use Rattle.rhai_tokenizer.specs.Runs.{first_of}
use Rattle.std.proofs.Common.{◌==◌, nat_le, drop, arith, inl, inr, ◌⊎◌, ◌≤◌, subst}
use Rattle.std.proofs.lemmas.Bool.{and_parts, cases_eq, or_cases, eqb-true, leb-true}
use Rattle.rhai_tokenizer.specs.declared.class.First.{First}
use Rattle.rhai_tokenizer.specs.declared.class.First.TheVariants as first
use Rattle.rhai_tokenizer.specs.Bytes.{begins, begins_decimal, begins_raw}
use Rattle.rhai_tokenizer.specs.Symbols.{symbols, signs, reserved_symbols, refused_symbols}
use Rattle.rhai_tokenizer.specs.Pieces.{begins_in}
use Rattle.rhai_tokenizer.specs.Cutting.{first_class}
use Rattle.rhai_tokenizer.specs.Tables.{symbol_table, table_texts}
use Rattle.rhai_tokenizer.proofs.ByteLemmas.{at_member, begins_like, falling, same_is}
use Rattle.rhai_tokenizer.proofs.RunLemmas.{Again, Some}

blanks_are_some : list_all (λ u. not (is_empty u)) blanks ≡ true
unfolding blanks lib.Utf8.encode
blanks_are_some = refl

pub blanks_some : Some blanks
blanks_some s m = not-true (is_empty s) (at_member (λ u. not (is_empty u)) blanks s m blanks_are_some)

blank_first : (next : Text) → list_all (λ s. same_text (first_of blanks (s ++ next)) s) blanks ≡ true
unfolding blanks lib.Utf8.encode
blank_first next = refl

blank_begins : (next : Text) → list_all (λ s. begins_any blanks (s ++ next)) blanks ≡ true
unfolding blanks lib.Utf8.encode
blank_begins next = refl

pub blanks_again : Again blanks
blanks_again s next m = (
  at_member (λ u. begins_any blanks (u ++ next)) blanks s m (blank_begins next),
  same_is _ _
      (at_member (λ u. same_text (first_of blanks (u ++ next)) u) blanks s m (blank_first next)),
)

spaces_are_some : list_all (λ u. not (is_empty u)) spaces ≡ true
unfolding spaces blanks lib.Utf8.encode
spaces_are_some = refl

pub spaces_some : Some spaces
spaces_some s m = not-true (is_empty s) (at_member (λ u. not (is_empty u)) spaces s m spaces_are_some)

space_first : (next : Text) → list_all (λ s. same_text (first_of spaces (s ++ next)) s) spaces ≡ true
unfolding spaces blanks lib.Utf8.encode
space_first next = refl

space_begins : (next : Text) → list_all (λ s. begins_any spaces (s ++ next)) spaces ≡ true
unfolding spaces blanks lib.Utf8.encode
space_begins next = refl

pub spaces_again : Again spaces
spaces_again s next m = (
  at_member (λ u. begins_any spaces (u ++ next)) spaces s m (space_begins next),
  same_is _ _
      (at_member (λ u. same_text (first_of spaces (u ++ next)) u) spaces s m (space_first next)),
)

-- ---- symbols

pub table_falls : falling table_texts ≡ true
unfolding table_texts symbol_table
table_falls = refl

pub table_is_symbols : list_all (is_one_of symbols) table_texts ≡ true
unfolding table_texts symbol_table symbols signs reserved_symbols refused_symbols
table_is_symbols = refl

pub symbols_are_table : list_all (is_one_of table_texts) symbols ≡ true
unfolding table_texts symbol_table symbols signs reserved_symbols refused_symbols
symbols_are_table = refl

pub table_some : list_all (λ u. not (is_empty u)) table_texts ≡ true
unfolding table_texts symbol_table
table_some = refl

-- the classes of bytes with which a symbol begins
abbrev pub is_sign_class : First → Bool
is_sign_class first.Slash = true
is_sign_class first.Bang = true
is_sign_class first.Minus = true
is_sign_class first.Hash = true
is_sign_class first.Other = true
is_sign_class k = false

pub signs_begin : list_all (begins (λ c. is_sign_class (first_class c))) table_texts ≡ true
unfolding table_texts symbol_table
signs_begin = refl

-- a longer symbol than this byte is no other piece
abbrev pub is_alone : ℕ → (Text → Bool) → Text → Text → Bool
is_alone x q next s = same_text s (x ∷ []) || not (begins (λ c. c == x) s && q (drop 1 (s ++ next)))

pub slash_alone : (next : Text) → list_all (is_alone 47 (begins (λ d. d == 47)) next) table_texts ≡ true
unfolding table_texts symbol_table
slash_alone next = refl

pub star_alone : (next : Text) → list_all (is_alone 47 (begins (λ d. d == 42)) next) table_texts ≡ true
unfolding table_texts symbol_table
star_alone next = refl

pub minus_alone : (next : Text) → list_all (is_alone 45 begins_decimal next) table_texts ≡ true
unfolding table_texts symbol_table
minus_alone next = refl

pub bang_alone : (next : Text) → list_all (is_alone 33 begins_in next) table_texts ≡ true
unfolding table_texts symbol_table
bang_alone next = refl

pub hash_alone : (next : Text) → list_all (is_alone 35 begins_raw next) table_texts ≡ true
unfolding table_texts symbol_table
hash_alone next = refl

-- symbols of one byte
pub is_symbol : (is_one_of symbols (47 ∷ []) ≡ true) × (is_one_of symbols (33 ∷ []) ≡ true)
    × (is_one_of symbols (45 ∷ []) ≡ true) × (is_one_of symbols (35 ∷ []) ≡ true)
unfolding symbols signs reserved_symbols refused_symbols
is_symbol = (refl, refl, refl, refl)

-- ---- blanks

-- a byte with which a blank begins
abbrev pub is_near : ℕ → Bool
is_near c = c == 32 || (nat_le 9 c && nat_le c 13)

abbrev pub is_space : ℕ → Bool
is_space c = is_near c || nat_le 128 c

spaces_begin : list_all (begins is_space) blanks ≡ true
unfolding blanks lib.Utf8.encode
spaces_begin = refl

pub blank_byte : (t : Text) → begins_any blanks t ≡ true → begins is_space t ≡ true
blank_byte t h = begins_like is_space blanks t spaces_begin h

-- the classes of bytes with which a blank begins
abbrev pub is_blank_class : First → Bool
is_blank_class first.Space = true
is_blank_class first.Far = true
is_blank_class k = false

pub blank_classes : list_all (begins (λ c. is_blank_class (first_class c))) blanks ≡ true
unfolding blanks lib.Utf8.encode
blank_classes = refl

near_one : (c : ℕ) → 9 ≤ c → c ≤ 13 → (c ≡ 9) ⊎ ((c ≡ 10) ⊎ ((c ≡ 11) ⊎ ((c ≡ 12) ⊎ (c ≡ 13))))
near_one c a b = elim (cases_eq c 9) [
  | inl e ↦ inl e
  | inr f ↦ elim (cases_eq c 10) [
    | inl e ↦ inr (inl e)
    | inr g ↦ elim (cases_eq c 11) [
      | inl e ↦ inr (inr (inl e))
      | inr h ↦ elim (cases_eq c 12) [
        | inl e ↦ inr (inr (inr (inl e)))
        | inr i ↦ inr (inr (inr (inr (omega arith))))
      ]
    ]
  ]
]

one_blank : (is_one_of blanks (32 ∷ []) ≡ true) × (is_one_of blanks (9 ∷ []) ≡ true)
    × (is_one_of blanks (10 ∷ []) ≡ true) × (is_one_of blanks (11 ∷ []) ≡ true) × (is_one_of blanks (12 ∷ []) ≡ true)
    × (is_one_of blanks (13 ∷ []) ≡ true)
unfolding blanks lib.Utf8.encode
one_blank = (refl, refl, refl, refl, refl, refl)

pub near_blank : (c : ℕ) → is_near c ≡ true → is_one_of blanks (c ∷ []) ≡ true
near_blank c h = elim (or_cases (c == 32) (nat_le 9 c && nat_le c 13) h) [
  | inl e ↦ at c 32 (eqb-true c 32 e) one_blank.0
  | inr r ↦
      let (low, high) = and_parts (nat_le 9 c) (nat_le c 13) r in
      elim (near_one c (leb-true 9 c low) (leb-true c 13 high)) [
        | inl e ↦ at c 9 e one_blank.1
        | inr r ↦ elim r [
          | inl e ↦ at c 10 e one_blank.2
          | inr r ↦ elim r [
            | inl e ↦ at c 11 e one_blank.3
            | inr r ↦ elim r [ inl e ↦ at c 12 e one_blank.4 | inr e ↦ at c 13 e one_blank.5 ]
          ]
        ]
      ]
]
  where
    at : (c d : ℕ) → c ≡ d → is_one_of blanks (d ∷ []) ≡ true → is_one_of blanks (c ∷ []) ≡ true
    at c d e h = subst (λ (x : ℕ). is_one_of blanks (x ∷ []) ≡ true) (sym e) h
