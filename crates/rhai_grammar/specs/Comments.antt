-- Which doc comments a function keeps, and how they read. They are those written before it.
use Rattle.rhai_lower.specs.Lexemes.{Lexeme, text_of}
use Rattle.std.specs.Prelude.{◌≡◌, ℕ, ◌-◌, min, Bool, ◌==◌, if◌then◌else◌, codes, refl}
use Rattle.std.specs.Prelude.{List, [], ◌∷◌, ◌++◌, drop, fold, map}
use Rattle.std.specs.List.{join_by, list_any, prefix_len}
use Rattle.std.specs.Str.Lines.{lines}
use Rattle.rhai_lower.specs.Texts.{Text}
use Rattle.rhai_lower.specs.Positions.{place}
use Rattle.rhai_lower.specs.declared.position.Position.{Position}

-- a doc comment as it is written
pub record Comment : Type 0 where
  pub text : Text
  pub at : Position

-- whether a text has a line feed
abbrev pub has_line_feed : Text → Bool
has_line_feed text = list_any (λ b. b == 10) text

-- how many spaces a line begins with
abbrev pub leading_spaces : Text → ℕ
leading_spaces line = prefix_len (λ b. b == 32) line

-- How many spaces each later line of a comment loses: as many as all of these lines begin with, but at most as many as
-- there are columns before the comment; none if it has no column.
unfoldable pub indent : List Text → Position → ℕ
indent later at = fold (λ n line. min n (leading_spaces line)) (at.column - 1) later

-- lines joined by line feeds
abbrev pub joined_lines : List Text → Text
joined_lines ls = join_by (λ line. line) (10 ∷ []) ls

-- A comment of these lines, where each after the first loses its indent. Without one its text stays, to the byte.
unfoldable pub shifted : Comment → List Text → Text
shifted c [] = c.text
shifted c (first ∷ later) =
    if indent later c.at == 0 then c.text else joined_lines (first ∷ map (drop (indent later c.at)) later)

-- A comment with a line feed, as it reads at the start of a line. A line feed ends a line, with a carriage return right
-- before it; behind the last line feed there is no empty line.
abbrev pub unindented : Comment → Text
unindented c = shifted c (lines c.text)

-- the comment that a text gives: an empty one gives none
abbrev pub unless_empty : Text → List Text
unless_empty [] = []
unless_empty (b ∷ bs) = (b ∷ bs) ∷ []

-- a text with one more line: what is not empty gets a line feed before that line
abbrev pub with_line : Text → Text → Text
with_line [] line = line
with_line (b ∷ bs) line = (b ∷ bs) ++ (10 ∷ line)

-- the comments that are kept, after comments of one line that are joined already
unfoldable pub kept_after : Text → List Comment → List Text
kept_after joined [] = unless_empty joined
kept_after joined (c ∷ more) =
    if has_line_feed c.text
    then unless_empty joined ++ (unindented c ∷ kept_after [] more)
    else kept_after (with_line joined c.text) more

-- The comments that a function keeps, of those written before it: those of one line that follow each other are joined,
-- and each other one stands alone.
unfoldable pub kept_comments : List Comment → List Text
kept_comments written = kept_after [] written

-- the examples: comments of one line, and one of three lines at a column
abbrev line_comment : Text → Comment
line_comment text = record { text = text; at = place 1 1 }

abbrev block_comment : ℕ → Comment
block_comment column =
    record { text = codes "/**" ++ (10 ∷ (codes "     x" ++ (10 ∷ codes "   */"))); at = place 2 column }

-- Comments of one line that follow each other are one, and empty ones alone are none. At column 3 each later line loses
-- the two columns before it, at column 1 none, and at column 9 the three spaces with which all of them begin; without a
-- column none. A comment with a line feed stands alone, between those before it and those after it.
example :
    (kept_comments (line_comment (codes "/// a") ∷ line_comment (codes "/// b") ∷ [])
    ≡ (codes "/// a" ++ (10 ∷ codes "/// b")) ∷ [])
    × (kept_comments (line_comment [] ∷ line_comment [] ∷ []) ≡ [])
    × (unindented (block_comment 3) ≡ codes "/**" ++ (10 ∷ (codes "   x" ++ (10 ∷ codes " */"))))
    × (unindented (block_comment 1) ≡ (block_comment 1).text)
    × (unindented (block_comment 9) ≡ codes "/**" ++ (10 ∷ (codes "  x" ++ (10 ∷ codes "*/"))))
    × (unindented (block_comment 0) ≡ (block_comment 0).text)
    × (kept_comments (line_comment (codes "/// a") ∷ block_comment 3 ∷ line_comment (codes "/// b") ∷ [])
    ≡ codes "/// a" ∷ unindented (block_comment 3) ∷ codes "/// b" ∷ [])
unfolding kept_comments kept_after shifted indent
example = (refl, refl, refl, refl, refl, refl, refl)

-- a token as a doc comment
abbrev pub comment_of : Lexeme → Position → Comment
comment_of lexeme at = record { text = text_of lexeme; at = at }
