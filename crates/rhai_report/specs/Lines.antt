-- The line of a text that contains a byte.
use Rattle.std.specs.Prelude.{◌≡◌, ◌+◌, ◌-◌, ◌==◌, ℕ, Bool, not, length, take, drop, codes, refl}
use Rattle.std.specs.List.{count_by, prefix_len, suffix_len}
use Rattle.rhai_lower.specs.Texts.{Text}
use Rattle.rhai_report.specs.declared.line.Line.{Line}

-- whether a byte ends a line
abbrev pub is_feed : ℕ → Bool
is_feed b = b == 10

-- whether it ends none
abbrev pub is_inside : ℕ → Bool
is_inside b = not (is_feed b)

-- The line in which the byte `at` of a text stands. As many lines are before it as line feeds are before that byte; it
-- goes from after the last of these to the next one.
abbrev pub line_at : Text → (at : ℕ) → Line
line_at text at =
    let before = take at text in
    record {
      number = count_by is_feed before + 1;
      start = length before - suffix_len is_inside before;
      stop = length before + prefix_len is_inside (drop at text);
    }

-- The line of this number begins at this byte.
abbrev pub BeginsLine : Text → (number at : ℕ) → Type 0
BeginsLine text number at = ((line_at text at).number ≡ number) × ((line_at text at).start ≡ at)

-- The `b` of these three lines is in the second one, which is the bytes 2 and 3.
example : (line_at (codes "a\nbc\nd") 2 ≡ record { number = 2; start = 2; stop = 4 })
    × BeginsLine (codes "a\nbc\nd") 2 2
example = (refl, (refl, refl))
