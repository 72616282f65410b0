-- Streams and contexts of worked rows.
use Rattle.std.specs.Prelude.{ℕ, List, [], ◌∷◌, reverse}
use Rattle.rhai_lower.specs.Lexemes.{Lexeme}
use Rattle.rhai_lower.specs.Positions.{place}
use Rattle.rhai_grammar.specs.Contexts.{Context, nothing_known}
use Rattle.rhai_grammar.specs.Delivered.{Ends, Point, Taken, Then, Tokens, code, item}
use Rattle.rhai_grammar.specs.Flags as bit
use Rattle.rhai_grammar.specs.Libraries.{Library}
use Rattle.rhai_grammar.specs.declared.filter.ExprFilter.TheVariants.{All}

-- tokens on the first line, each at its column and the same in both modes, and the end mark at a column
abbrev pub line : List (Lexeme × ℕ) → ℕ → Tokens
line [] end = Ends (place 1 end)
line (t ∷ ts) end = let rest = line ts end in let i = item t.0 (place 1 t.1) in Then i i rest rest

abbrev pub unread : List (Lexeme × ℕ) → ℕ → Point
unread ts end = record { tokens = line ts end; taken = []; library = []; captured = [] }

abbrev pub taken_from : List (Lexeme × ℕ) → List Taken
taken_from [] = []
taken_from (t ∷ ts) = record { mode = code; item = item t.0 (place 1 t.1) } ∷ taken_from ts

-- the point at which the first of these tokens were taken, and the second are left
abbrev pub between : List (Lexeme × ℕ) → List (Lexeme × ℕ) → ℕ → Point
between ts us end = record { tokens = line us end; taken = reverse (taken_from ts); library = []; captured = [] }

-- a context at level 0 with a depth limit, without flags and options, and with literals of any size
abbrev pub depth : ℕ → Context
depth limit = record {
  settings = record { flags = 0; options = 0; level = 0; limit = limit };
  options = bit.all_but_strict_var;
  sizes = record { array = 0; map = 0; function_depth = 32; functions = 100 };
  filter = All;
  known = nothing_known;
  begun = 0;
}

-- a point with these functions
abbrev pub holding : Library → Point → Point
holding library s = record s { library = library }

-- under these flags and options, and the engine's default depth limit
abbrev pub under : (flags options : ℕ) → Context
under flags options =
    record (depth 64) { settings = record { flags = flags; options = options; level = 0; limit = 64 } }

-- at the global level
abbrev pub on_global_level : Context
on_global_level = under bit.global_level 0

-- with closures as operands
abbrev pub with_closures : Context
with_closures = under 0 bit.anon_fn
