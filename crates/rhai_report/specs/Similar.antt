-- Which of some names is most similar to another one.
use Rattle.std.specs.Prelude.{◌≡◌, ◌-◌, ◌/◌, ◌<◌, ◌≤◌, ◌&&◌, ℕ, Bool, false, true, not, Option, Some, List}
use Rattle.std.specs.Prelude.{MatchOption, codes, if◌then◌else◌, length, map, max, min, nat_le, refl, take}
use Rattle.std.specs.Char.{to_ascii_lowercase}
use Rattle.std.specs.List.{All, slice_get}
use Rattle.std.specs.Str.{chars}
use Rattle.strsim.specs.Edits.{cost_at, osa_from, osa_row, osa_table}
use Rattle.rhai_lower.specs.Texts.{Text, same_text}

-- two names differ in case alone
abbrev pub differ_in_case : Text → Text → Bool
differ_in_case name other = same_text (map to_ascii_lowercase name) (map to_ascii_lowercase other)

-- How many edits lead from one name to another: characters that are put in, left out, replaced, or swapped with the
-- next one. Names that differ in case alone are one edit apart.
unfoldable pub edits : (name other : Text) → ℕ
edits name other =
    if differ_in_case name other then 1 else (osa_table (chars name) (chars other)).last_row (length (chars other))

-- how many edits lead at most from a name of so many characters to one that was meant: one for each three of them, but
-- not all
abbrev pub most_edits : (characters : ℕ) → ℕ
most_edits n = min (max n 3 / 3) (n - 1)

-- Two names are compared: they are not the same, and both have at most 64 bytes.
abbrev pub is_compared : (name other : Text) → Bool
is_compared name other = not (same_text name other) && (nat_le (length name) 64 && nat_le (length other) 64)

-- Another name may be meant: few edits lead to it.
unfoldable pub may_be_meant : (name other : Text) → Bool
may_be_meant name other =
    is_compared name other && nat_le (edits name other) (most_edits (length (chars name)))

-- The first one of these names to which the fewest edits lead, of those that may be meant.
pub record IsMostSimilar (name : Text) (names : List Text) (other : Text) : Type 0 where
  pub place : ℕ
  pub is : slice_get names place ≡ Some other
  pub meant : may_be_meant name other ≡ true
  pub nearest : All (λ o. may_be_meant name o ≡ true → edits name other ≤ edits name o) names
  pub first : All (λ o. may_be_meant name o ≡ true → edits name other < edits name o) (take place names)

-- such a name, or none, where none of the names may be meant
abbrev pub IsMeantBy : (name : Text) → List Text → Option Text → Type 0
IsMeantBy name names other =
    MatchOption other (All (λ o. may_be_meant name o ≡ false) names) (IsMostSimilar name names)

-- `totl` may mean `total`, which is one edit away, and not `sum`; `Sum` is one edit away from `sum`.
example : (may_be_meant (codes "totl") (codes "total") ≡ true) × (may_be_meant (codes "totl") (codes "sum") ≡ false)
    × (edits (codes "sum") (codes "Sum") ≡ 1)
unfolding may_be_meant edits chars osa_from osa_row cost_at
example = (refl, refl, refl)
