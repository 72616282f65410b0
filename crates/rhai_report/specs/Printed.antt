-- How a report is printed. A definition takes the text that was printed before, and gives it with what is printed next.
use lib.Utf8.{encode}
use Rattle.std.specs.Prelude.{◌≡◌, ◌++◌, ◌-◌, ◌==◌, ◌&&◌, ℕ, Bool, false, Option, Some, None, List, [], ◌∷◌, codes}
use Rattle.std.specs.Prelude.{fold, if◌then◌else◌, length, map, max, refl, replicate, string_bytes}
use Rattle.std.specs.Fmt.{decimal}
use Rattle.std.specs.List.{slice_split}
use Rattle.std.specs.Str.{chars, encode_utf8_all}
use Rattle.unicode_width.specs.Width.{str_width}
use Rattle.rhai_lower.specs.Texts.{Text}
use Rattle.rhai_report.specs.Snippets.{IsSnippetOf}
use Rattle.rhai_report.specs.Visible.{shown_as}
use Rattle.rhai_report.specs.declared.mark.Mark.{Mark}
use Rattle.rhai_report.specs.declared.report.Note.{Note}
use Rattle.rhai_report.specs.declared.report.Report.{Report}
use Rattle.rhai_report.specs.declared.report.Source.{Source}
use Rattle.rhai_report.specs.declared.snippet.Snippet.{Snippet}
use Rattle.rhai_report.specs.declared.style.Style.{Style}

infixl 10 ◌▷◌
-- what was printed, and then what comes next
abbrev pub ◌▷◌ : Text → (Text → Text) → Text
out ▷ more = more out

-- ---- texts

-- a text as it is
abbrev pub written : Text → Text → Text
written t out = out ++ t

-- each character of a text as it is shown
abbrev pub visible : Text → Text → Text
visible t out = out ++ encode_utf8_all (map shown_as (chars t))

-- a character as often as there are columns
abbrev pub filled : (fill columns : ℕ) → Text → Text
filled c n out = out ++ encode_utf8_all (replicate n c)

-- how many columns of a terminal a text takes
abbrev pub columns : Text → ℕ
columns t = str_width false (chars t)

-- as wide as these parts of a text, with a tab before each part
abbrev pub tabbed : (fill : ℕ) → List Text → Text → Text
tabbed c [] out = out
tabbed c (p ∷ more) out = tabbed c more (out ▷ written (codes "\t") ▷ filled c (columns p))

-- the same, but with no tab before the first part
abbrev pub parts_wide : (fill : ℕ) → List Text → Text → Text
parts_wide c [] out = out
parts_wide c (p ∷ more) out = tabbed c more (out ▷ filled c (columns p))

-- what is as wide as a text: tabs where it has tabs, and else this character
abbrev pub as_wide : (fill : ℕ) → Text → Text → Text
as_wide c t = parts_wide c (slice_split (λ b. b == 9) t)

-- ---- a place

-- the edge of a line: its number, or blanks, and a bar
abbrev pub edge : Style → (digits : ℕ) → Option ℕ → Text → Text
edge s digits None out =
    out ▷ written s.edge.now ▷ filled 32 digits ▷ written (codes " |") ▷ written s.plain.now
edge s digits (Some n) out =
    out ▷ written s.edge.now ▷ written (decimal n) ▷ filled 32 (digits - length (decimal n)) ▷ written (codes " |")
    ▷ written s.plain.now

-- the name of the file, if it has one, with the line and the column of a mark
abbrev pub place : Style → (digits : ℕ) → (name : Text) → Mark → Text → Text
place s digits name m out =
    out ▷ filled 32 digits ▷ written s.edge.now ▷ written (codes "-->") ▷ written s.plain.now ▷ written (codes " ")
    ▷ visible name ▷ written (if length name == 0 then [] else codes ":")
    ▷ written (decimal m.line) ▷ written (codes ":") ▷ written (decimal m.column) ▷ written (codes "\n")

-- what stands for what was cut
abbrev pub dots : Bool → Text
dots is_cut = if is_cut then codes "..." else []

-- the line of a snippet, after its edge
abbrev pub line : Snippet → Text → Text
line s out =
    if (length s.before.now == 0 && length s.marked.now == 0) && length s.after.now == 0 then out ▷ written (codes "\n")
    else out ▷ written (codes " ") ▷ written (dots s.cut_front) ▷ visible s.before.now ▷ visible s.marked.now
    ▷ visible s.after.now ▷ written (dots s.cut_end) ▷ written (codes "\n")

-- the carets below what a snippet marks, one at least, after the edge of their line
abbrev pub carets : Style → (colour : Text) → Snippet → Text → Text
carets s colour n out =
    let marked = [] ▷ visible n.marked.now in
    out ▷ as_wide 32 ([] ▷ written (if n.cut_front then codes " ..." else codes " ") ▷ visible n.before.now)
    ▷ written colour
    ▷ (if columns marked == 0 then written (codes "^") else as_wide 94 marked) ▷ written s.plain.now
    ▷ written (codes "\n")

-- A mark is printed with its place, its line, and carets below.
pub record PrintsMark (s : Style) (colour : Text) (digits : ℕ) (source : Source) (m : Mark) (before after : Text) :
    Type 0
  where
    pub snippet : Snippet
    pub shows : IsSnippetOf source.text.now m snippet
    pub printed : after ≡ before ▷ place s digits source.name.now m ▷ edge s digits None ▷ written (codes "\n")
        ▷ edge s digits (Some m.line) ▷ line snippet ▷ edge s digits None ▷ carets s colour snippet

-- ---- a report

-- the title of a report or a note
abbrev pub title : Style → (colour word text : Text) → Text → Text
title s colour word text out =
    out ▷ written colour ▷ written word ▷ written s.plain.now ▷ written s.strong.now ▷ written (codes ": ")
    ▷ visible text ▷ written s.plain.now ▷ written (codes "\n")

-- a note without a place
abbrev pub remark : Style → (digits : ℕ) → (text : Text) → Text → Text
remark s digits text out =
    out ▷ filled 32 digits ▷ written (codes " ") ▷ written s.edge.now ▷ written (codes "=") ▷ written s.plain.now
    ▷ written (codes " ") ▷ written s.strong.now ▷ written (codes "note") ▷ written s.plain.now
    ▷ written (codes ": ") ▷ visible text ▷ written (codes "\n")

-- the notes without a place
abbrev pub remark_of : Style → (digits : ℕ) → Option Mark → (text : Text) → Text → Text
remark_of s digits None text out = remark s digits text out
remark_of s digits (Some m) text out = out

abbrev pub remarks : Style → (digits : ℕ) → List Note → Text → Text
remarks s digits [] out = out
remarks s digits (n ∷ ns) out = remarks s digits ns (remark_of s digits n.mark (string_bytes n.text) out)

-- a note with a place
abbrev pub PrintsNote : Style → (colour : Text) → (digits : ℕ) → Source → Option Mark → (text before after : Text)
    → Type 0
PrintsNote s colour digits source None text before after = after ≡ before
PrintsNote s colour digits source (Some m) text before after =
    PrintsMark s colour digits source m (before ▷ title s colour (codes "note") text) after

-- the notes with one, in order
abbrev pub PrintsNotes : Style → (colour : Text) → (digits : ℕ) → Source → List Note → (before after : Text) → Type 0
PrintsNotes s colour digits source [] before after = after ≡ before
PrintsNotes s colour digits source (n ∷ ns) before after =
    (middle : Text) × PrintsNote s colour digits source n.mark (string_bytes n.text) before middle
    × PrintsNotes s colour digits source ns middle after

-- the number of the line of a mark; 0 for none
abbrev pub line_shown : Option Mark → ℕ
line_shown None = 0
line_shown (Some m) = m.line

-- how many digits the greatest number of a line has that a report shows
abbrev pub greatest_line : Report → ℕ
greatest_line r = fold (λ n note. max n (line_shown note.mark)) (line_shown r.mark) r.notes.items

abbrev pub digits_shown : Report → ℕ
digits_shown r = length (decimal (greatest_line r))

-- the mark of a report, if it has one
abbrev pub PrintsMarkOf : Style → (digits : ℕ) → Source → Option Mark → (before after : Text) → Type 0
PrintsMarkOf s digits source None before after = after ≡ before
PrintsMarkOf s digits source (Some m) before after = PrintsMark s s.error.now digits source m before after

-- A report is printed as its message and its mark, then the notes without a place, then the others.
pub record Prints (s : Style) (r : Report) (before after : Text) : Type 0 where
  pub middle : Text
  pub mark : PrintsMarkOf s (digits_shown r) r.source r.mark
      (before ▷ title s s.error.now (codes "error") (string_bytes r.message)) middle
  pub notes : PrintsNotes s s.note.now (digits_shown r) r.source r.notes.items
      (middle ▷ remarks s (digits_shown r) r.notes.items) after

-- two columns of stars
example : filled 42 2 (codes ">") ≡ codes ">**"
unfolding encode
example = refl
