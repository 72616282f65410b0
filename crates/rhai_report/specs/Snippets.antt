-- The line of a mark, in three parts, and how it is cut where it is long.
use Rattle.std.specs.Prelude.{◌≡◌, ◌+◌, ◌-◌, ◌==◌, ◌||◌, ℕ, false, codes, drop, if◌then◌else◌, length}
use Rattle.std.specs.Prelude.{max, min, nat_lt, refl, slice_index_or, slice_range, take}
use Rattle.std.specs.Bool.{MatchBool}
use Rattle.std.specs.Str.{IsCharBoundary, chars, encode_utf8_all}
use Rattle.rhai_lower.specs.Texts.{Text}
use Rattle.rhai_report.specs.Lines.{line_at}
use Rattle.rhai_report.specs.declared.line.Line.{Line}
use Rattle.rhai_report.specs.declared.mark.Mark.{Mark}
use Rattle.rhai_report.specs.declared.snippet.Snippet.{Snippet}

-- ---- characters

-- the first ones of a text, of so many at most, and those after these
abbrev pub first_part : ℕ → Text → Text
first_part n text = encode_utf8_all (take n (chars text))

abbrev pub rest_after : ℕ → Text → Text
rest_after n text = encode_utf8_all (drop n (chars text))

-- how many a text has
abbrev pub size : Text → ℕ
size text = length (chars text)

-- the last ones of a text, of so many at most
abbrev pub last_part : ℕ → Text → Text
last_part n text = rest_after (size text - n) text

-- ---- the parts of a line

-- where a line ends that is shown: a carriage return before its line feed is left out
abbrev pub shown_end : Text → Line → ℕ
shown_end text line = if slice_index_or text (line.stop - 1) 0 == 13 then line.stop - 1 else line.stop

-- the line of a mark, and where it ends
abbrev pub line_of_mark : Text → Mark → Line
line_of_mark text m = line_at text m.start

abbrev pub end_of_line : Text → Mark → ℕ
end_of_line text m = shown_end text (line_of_mark text m)

-- where what is marked ends in this line
abbrev pub end_of_mark : Text → Mark → ℕ
end_of_mark text m = max (min m.stop (end_of_line text m)) m.start

-- what is before a mark in its line, what is marked, and what is after it
abbrev pub before_mark : Text → Mark → Text
before_mark text m = slice_range text (line_of_mark text m).start m.start

abbrev pub marked : Text → Mark → Text
marked text m = slice_range text m.start (end_of_mark text m)

abbrev pub after_mark : Text → Mark → Text
after_mark text m = slice_range text (end_of_mark text m) (end_of_line text m)

-- ---- what is shown

-- the parts are these, and nothing was cut
pub record IsWhole (front middle back : Text) (s : Snippet) : Type 0 where
  pub before : s.before.now ≡ front
  pub mark : s.marked.now ≡ middle
  pub after : s.after.now ≡ back
  pub cut_front : s.cut_front ≡ false
  pub cut_end : s.cut_end ≡ false

-- Of each part at most 60 characters are left, those next to where the middle begins. After a middle that is cut there
-- is nothing.
pub record IsCut (front middle back : Text) (s : Snippet) : Type 0 where
  pub before : s.before.now ≡ last_part 60 front
  pub mark : s.marked.now ≡ first_part 60 middle
  pub after : s.after.now ≡ first_part (if nat_lt 60 (size middle) then 0 else 60) back
  pub cut_front : s.cut_front ≡ nat_lt 60 (size front)
  pub cut_end : s.cut_end ≡ (nat_lt 60 (size middle) || nat_lt 60 (size back))

-- A line of more than 160 characters is cut.
abbrev pub Shows : (front middle back : Text) → Snippet → Type 0
Shows front middle back s =
    MatchBool (nat_lt 160 (size front + size middle + size back)) (IsCut front middle back s)
    (IsWhole front middle back s)

-- the snippet of a mark, where characters begin at both of its ends
abbrev pub IsSnippetOf : Text → Mark → Snippet → Type 0
IsSnippetOf text m s =
    IsCharBoundary text m.start → IsCharBoundary text m.stop
    → Shows (before_mark text m) (marked text m) (after_mark text m) s

-- a mark of these bytes
abbrev example_mark : (start stop : ℕ) → Mark
example_mark start stop = record { line = 2; column = 2; start = start; stop = stop }

-- The second line of these, up to its carriage return, is `x`, what is marked as `y`, and `z`.
example : (before_mark (codes "a\nxyz\r\nb") (example_mark 3 4) ≡ codes "x")
    × (marked (codes "a\nxyz\r\nb") (example_mark 3 4) ≡ codes "y")
    × (after_mark (codes "a\nxyz\r\nb") (example_mark 3 4) ≡ codes "z")
    × (size (codes "xyz") ≡ 3)
unfolding chars
example = (refl, refl, refl, refl)
