-- The settings of the code as plain ones: raises of the level, and refusals.
use Rattle.std.specs.Prelude.{◌≡◌, ◌+◌, ◌-◌, ◌≤◌, ℕ, true, false, Result, Ok, Err, refl}
use Rattle.rhai_lower.specs.Positions.{place}
use Rattle.rhai_lower.specs.declared.position.Position.{Position}
use Rattle.rhai_grammar.specs.declared.error.ParseErrorType.TheVariants as error
use Rattle.rhai_grammar.specs.declared.error.ParseError.{ParseError}
use Rattle.rhai_grammar.specs.Settings.{Settings, may_raise, level_up, one_more}
use Rattle.rhai_base.specs.declared.settings.ParseSettings.{ParseSettings}
use Rattle.rhai_base.specs.declared.settings.RunSettings.{RunSettings}

-- everything except the position
abbrev pub settings_of : ParseSettings → Settings
settings_of c = record { flags = c.flags.0; options = c.options.0; level = c.level; limit = c.max_expr_depth }

-- the error of a refused raise
abbrev pub too_deep : Position → ParseError
too_deep at = record { 0 = error.ExprTooDeep; 1 = at }

-- the error of a `break` or `continue` outside of loops
abbrev pub no_loop : Position → ParseError
no_loop at = record { 0 = error.LoopBreak; 1 = at }

-- the error of an `export` below the global level
abbrev pub no_export : Position → ParseError
no_export at = record { 0 = error.WrongExport; 1 = at }

-- the error of a function below the global level
abbrev pub no_function : Position → ParseError
no_function at = record { 0 = error.WrongFnDefinition; 1 = at }

-- the error of a doc comment below the global level
abbrev pub no_comment : Position → ParseError
no_comment at = record { 0 = error.WrongDocComment; 1 = at }

-- the error of a function that is one too many
abbrev pub too_many_functions : Position → ParseError
too_many_functions at = record { 0 = error.TooManyFunctions; 1 = at }

-- A raise is possible and gives the settings one level deeper, at this position; or it is not possible and is refused
-- at the old position.
abbrev pub Raises : ParseSettings → Position → Result ParseSettings ParseError → Type 0
Raises c at (Ok d) = (may_raise (settings_of c) ≡ true) × (settings_of d ≡ level_up (settings_of c)) × (d.pos ≡ at)
Raises c at (Err e) = (may_raise (settings_of c) ≡ false) × (e ≡ too_deep c.pos)

-- After an operator of a run, at this position, its right side has the settings one level deeper, at the old position,
-- and the operators that follow it have them at the operator.
abbrev pub RaisesInRun : ParseSettings → Position → Result RunSettings ParseError → Type 0
RaisesInRun c at (Ok d) = Raises c c.pos (Ok d.side) × Raises c at (Ok d.next)
RaisesInRun c at (Err e) = Raises c c.pos (Err e)

-- the levels that are left under a limit
unfoldable pub gap : (limit level : ℕ) → ℕ
gap limit level = limit - level

abbrev pub levels_left : ParseSettings → ℕ
levels_left c = gap c.max_expr_depth c.level

-- These settings are one level deeper than those: the limit and the flags are the same, and under a limit fewer levels
-- are left.
pub record IsDeeper (c d : ParseSettings) : Type 0 where
  pub limit : d.max_expr_depth ≡ c.max_expr_depth
  pub flags : d.flags ≡ c.flags
  pub less : 1 ≤ c.max_expr_depth → levels_left d + 1 ≤ levels_left c

-- no flags and no options
abbrev pub bare : (level limit : ℕ) → Position → ParseSettings
bare level limit at = record {
  flags = record { 0 = 0 };
  options = record { 0 = 0 };
  level = level;
  pos = at;
  max_expr_depth = limit;
}

abbrev raises_below_the_limit : Type 0
raises_below_the_limit = Raises (bare 1 2 (place 1 1)) (place 1 5) (Ok (bare 2 2 (place 1 5)))

abbrev is_refused_at_the_limit : Type 0
is_refused_at_the_limit = Raises (bare 2 2 (place 1 1)) (place 1 5) (Err (too_deep (place 1 1)))

-- Under a limit of 2, level 1 is raised to 2, and level 2 is refused at its position. Under a limit of 5, two levels
-- are left at level 3, and none at level 7.
example : raises_below_the_limit × is_refused_at_the_limit × (levels_left (bare 3 5 (place 1 1)) ≡ 2)
    × (levels_left (bare 7 5 (place 1 1)) ≡ 0)
unfolding one_more gap
example = ((refl, refl, refl), (refl, refl), refl, refl)
