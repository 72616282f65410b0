-- The context of a form: settings, limits, earlier definitions. Its meaning depends on these.
use Rattle.std.specs.Prelude.{◌≡◌, ℕ, Bool, true, false, ◌&&◌, not, List, [], length, nat_lt, refl}
use Rattle.rhai_lower.specs.Texts.{Text}
use Rattle.rhai_lower.specs.Slots.{SlotValue}
use Rattle.rhai_grammar.specs.Flags as bit
use Rattle.rhai_grammar.specs.Flags.{has}
use Rattle.rhai_grammar.specs.Settings as settings
use Rattle.rhai_grammar.specs.declared.filter.ExprFilter.{ExprFilter}
use Rattle.rhai_grammar.specs.declared.filter.ExprFilter.TheVariants.{All, AllButPipe}
use Rattle.rhai_grammar.specs.Settings.{Settings}

-- The engine's limits other than the depth of a script: the greatest number of items in an array literal, and of
-- properties in an object map literal; the greatest depth of a function, where, as for these, 0 means no limit; and the
-- greatest number of functions.
pub record Sizes : Type 0 where
  pub array : ℕ
  pub map : ℕ
  pub function_depth : ℕ
  pub functions : ℕ

-- What is known before a script defines or imports anything: the variables that its caller gives it, the modules that
-- were imported around it, and those that the engine has.
pub record Known : Type 0 where
  pub variables : List SlotValue
  pub imports : List Text
  pub modules : List Text

-- nothing is known
abbrev pub nothing_known : Known
nothing_known = record { variables = []; imports = []; modules = [] }

-- What a form passes on to its parts, with little but the level changed: the settings, the engine's options (as bits)
-- and limits, which tokens an expression may have, what is known, and how many functions and closures have begun
-- around.
pub record Context : Type 0 where
  pub settings : Settings
  pub options : ℕ
  pub sizes : Sizes
  pub filter : ExprFilter
  pub known : Known
  pub begun : ℕ

-- What was defined before a form, in written order, and is still live.
pub record Live : Type 0 where
  -- the slots of the variables, the oldest first
  pub slots : List SlotValue
  -- the number of slots before the current block
  pub block : ℕ
  -- the names of the imports, the oldest first; that of an import without a name is empty
  pub imports : List Text

-- nothing was defined
abbrev pub nothing_live : Live
nothing_live = record { slots = []; block = 0; imports = [] }

-- at the beginning of a block
abbrev pub in_block : Live → Live
in_block live = record live { block = length live.slots }

-- at the global level of a script, where it may export
abbrev pub is_global : Context → Bool
is_global context = settings.at_global_level context.settings

-- in a block, an arm of a `switch`, or a jump in place of an operand
abbrev pub below_global : Context → Context
below_global context = record context { settings = settings.below_global_level context.settings }

-- variables and modules have to be known
abbrev pub is_strict : Context → Bool
is_strict context = settings.strict_names context.settings

-- the engine lets a definition shadow a variable of the same name
abbrev pub allows_shadowing : Context → Bool
allows_shadowing context = has context.options bit.shadowing

-- the engine lets scripts have loops
abbrev pub allows_looping : Context → Bool
allows_looping context = has context.options bit.looping

-- a block is an operand
abbrev pub has_block_values : Context → Bool
has_block_values context = settings.block_values context.settings

-- an `if` is an operand
abbrev pub has_if_values : Context → Bool
has_if_values context = settings.if_values context.settings

-- a `switch` is an operand
abbrev pub has_switch_values : Context → Bool
has_switch_values context = settings.switch_values context.settings

-- a loop is an operand
abbrev pub has_loop_values : Context → Bool
has_loop_values context = allows_looping context && settings.loop_values context.settings

-- a closure is an operand
abbrev pub has_closures : Context → Bool
has_closures context = settings.closure_values context.settings

-- `|` may be an operator, or begin a closure
abbrev pub allows_pipe : ExprFilter → Bool
allows_pipe All = true
allows_pipe AllButPipe = false

-- in the body of a loop, which `break` and `continue` leave
abbrev pub is_in_loop : Context → Bool
is_in_loop context = settings.in_loop context.settings

abbrev pub loop_body : Context → Context
loop_body context = record context { settings = settings.loop_settings context.settings }

-- in a case of a `switch`, and in all that stands in it
abbrev pub in_case : Context → Context
in_case context = record context { filter = AllButPipe }

-- a block is one expression or assignment
abbrev pub has_single_blocks : Context → Bool
has_single_blocks context = settings.single_blocks context.settings

-- a raise of the level is possible
abbrev pub may_raise : Context → Bool
may_raise context = settings.may_raise context.settings

-- one level deeper
abbrev pub level_up : Context → Context
level_up context = record context { settings = settings.level_up context.settings }

-- A literal with this number of parts may have no more.
abbrev pub full : (limit count : ℕ) → Bool
full limit count = nat_lt 0 limit && not (nat_lt count limit)

-- With a limit of 2, a literal of one part is not full, and one of two is; without a limit none is.
example : (full 2 1 ≡ false) × (full 2 2 ≡ true) × (full 0 2 ≡ false)
example = (refl, refl, refl)
