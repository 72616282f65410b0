-- Runs of bytes at the front of a text, as the code finds them. No definition: it stands between the code and the
-- forms.
use Rattle.std.specs.Prelude.{ℕ, zero, suc, Bool, List, [], ◌∷◌, drop, length, if◌then◌else◌}
use Rattle.rhai_lower.specs.Texts.{Text}
use Rattle.rhai_tokenizer.specs.Bytes.{begins_any, begins_with}

-- the first of these with which the text begins
abbrev pub first_of : List Text → Text → Text
first_of [] t = []
first_of (s ∷ ss) t = if begins_with s t then s else first_of ss t

-- the longest front whose bytes pass
abbrev pub run : (ℕ → Bool) → Text → Text
run p [] = []
run p (c ∷ t) = if p c then c ∷ run p t else []

-- these texts as long as they follow each other, from a byte on that belongs to one of which so many bytes are left
abbrev pub run_from : List Text → (left : ℕ) → Text → List Text
run_from ts left [] = []
run_from ts (suc left) (c ∷ t) = run_from ts left t
run_from ts zero (c ∷ t) =
    if begins_any ts (c ∷ t) then first_of ts (c ∷ t) ∷ run_from ts (length (drop 1 (first_of ts (c ∷ t)))) t else []
