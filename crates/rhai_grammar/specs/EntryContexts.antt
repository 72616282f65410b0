-- What a new engine hands over at its two kinds of entry points, in a fresh state.
use Rattle.std.specs.Prelude.{◌-◌, ◌^◌, ℕ}
use Rattle.rhai_grammar.specs.Contexts.{Context, nothing_known}
use Rattle.rhai_grammar.specs.Flags.{expression_flags, expression_options, global_level, all_but_strict_var}
use Rattle.rhai_grammar.specs.declared.filter.ExprFilter.TheVariants.{All}

-- A new engine, in a fresh state, with these flags and options in the settings, this depth limit, and at most so many
-- functions: all options but strict variables, literals of any size, and a depth of 32 in functions.
abbrev pub at_entry : (flags options limit functions : ℕ) → Context
at_entry flags options limit functions = record {
  settings = record { flags = flags; options = options; level = 0; limit = limit };
  options = all_but_strict_var;
  sizes = record { array = 0; map = 0; function_depth = 32; functions = functions };
  filter = All;
  known = nothing_known;
  begun = 0;
}

-- as many functions as 64 bits can count
abbrev pub any_functions : ℕ
any_functions = 2 ^ 64 - 1

-- For one expression: the flags of the global level and of blocks that are one expression, and the options without
-- blocks and loops as operands.
abbrev pub entry_expression : (limit : ℕ) → Context
entry_expression limit = at_entry expression_flags expression_options limit any_functions

-- for a script: the flag of the global level, and all options of the engine
abbrev pub entry_script : Context
entry_script = at_entry global_level all_but_strict_var 64 any_functions
