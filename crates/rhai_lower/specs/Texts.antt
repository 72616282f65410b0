-- Texts, as their bytes.
use Rattle.std.specs.Prelude.{ℕ, Bool, List, nat_eq}
use Rattle.std.specs.Cmp.Lexicographic.{pointwise}

-- a text, as the list of its UTF-8 bytes
abbrev pub Text : Type 0
Text = List ℕ

-- two texts have the same bytes
abbrev pub same_text : Text → Text → Bool
same_text = pointwise nat_eq
