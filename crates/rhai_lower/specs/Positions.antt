-- Positions: a line and a column, each counted from 1, or none.
use Rattle.std.specs.Prelude.{◌≡◌, ◌==◌, ◌||◌, ◌++◌, ℕ, zero, suc, Option, Some, None, List, codes, if◌then◌else◌, refl}
use Rattle.std.specs.Fmt.{decimal, digits}
use Rattle.rhai_lower.specs.declared.position.Position.{Position}

-- the position at a line and a column
abbrev pub place : ℕ → ℕ → Position
place line column = record { line = line; column = column }

-- no position
abbrev pub nowhere : Position
nowhere = place 0 0

-- a number from 1; 0 is none
abbrev pub from_one : ℕ → Option ℕ
from_one zero = None
from_one (suc n) = Some (suc n)

-- the line of a position, counted from 1; none without a position
abbrev pub line_of : Position → Option ℕ
line_of p = from_one p.line

-- the column of a position, counted from 1; none without a position
abbrev pub column_of : Position → Option ℕ
column_of p = from_one p.column

-- how a position is printed: line and column in decimal, with a colon between them
abbrev pub shown : Position → List ℕ
shown p = if p.line == 0 || p.column == 0 then codes "none" else decimal p.line ++ codes ":" ++ decimal p.column

-- how a position is shown in a message
abbrev pub described : Position → List ℕ
described p =
    if p.line == 0 || p.column == 0 then codes "none" else
    codes "line " ++ decimal p.line ++ codes ", position " ++ decimal p.column

-- The third column of the first line.
example : (line_of (place 1 3) ≡ Some 1) × (column_of (place 1 3) ≡ Some 3) × (line_of nowhere ≡ None)
    × (shown (place 12 3) ≡ codes "12:3") × (shown nowhere ≡ codes "none")
    × (described (place 12 3) ≡ codes "line 12, position 3") × (described nowhere ≡ codes "none")
unfolding digits
example = (refl, refl, refl, refl, refl, refl, refl)
