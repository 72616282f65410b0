-- The settings under which a construct is parsed, as plain numbers. They are the bits of the flags and of the options,
-- the level, and its limit (0 means none). Their position is left out.
use Rattle.std.specs.Prelude.{◌≡◌, ℕ, ◌+◌, ◌-◌, ◌^◌, ◌==◌, ◌||◌, Bool, true, false, nat_lt, min, refl}
use Rattle.std.specs.Int.RustNames.{bit_and, bit_or}
use Rattle.rhai_grammar.specs.Flags as bit
use Rattle.rhai_grammar.specs.Flags.{has}

pub record Settings : Type 0 where
  pub flags : ℕ
  pub options : ℕ
  pub level : ℕ
  pub limit : ℕ

-- the bit of the flags that says that the global level of a script is parsed
abbrev pub at_global_level : Settings → Bool
at_global_level settings = has settings.flags bit.global_level

-- the settings below the global level
abbrev pub below_global_level : Settings → Settings
below_global_level settings = record settings { flags = bit_and settings.flags bit.all_but_global_level }

-- the bit of the flags that says that a function's body is parsed
abbrev pub is_in_function : Settings → Bool
is_in_function settings = has settings.flags bit.fn_scope

-- the bit of the flags that says that a loop's body is parsed
abbrev pub in_loop : Settings → Bool
in_loop settings = has settings.flags bit.breakable

-- the settings in a loop's body
abbrev pub loop_settings : Settings → Settings
loop_settings settings = record settings { flags = bit_or settings.flags bit.breakable }

-- the bit of the flags that makes a block one expression or assignment
abbrev pub single_blocks : Settings → Bool
single_blocks settings = has settings.flags bit.disallow_statements_in_blocks

-- the bit of the flags that requires strings as keys of object maps
abbrev pub quoted_keys : Settings → Bool
quoted_keys settings = has settings.flags bit.disallow_unquoted_map_properties

-- the bit of the options that makes an `if` an operand
abbrev pub if_values : Settings → Bool
if_values settings = has settings.options bit.if_expr

-- the bit of the options that makes a `switch` an operand
abbrev pub switch_values : Settings → Bool
switch_values settings = has settings.options bit.switch_expr

-- the bit of the options that makes a loop an operand
abbrev pub loop_values : Settings → Bool
loop_values settings = has settings.options bit.loop_expr

-- the bit of the options that makes a block an operand
abbrev pub block_values : Settings → Bool
block_values settings = has settings.options bit.stmt_expr

-- the bit of the options that requires variables and modules to be known
abbrev pub strict_names : Settings → Bool
strict_names settings = has settings.options bit.strict_var

-- a raise is possible
abbrev pub may_raise : Settings → Bool
may_raise settings = (settings.limit == 0) || nat_lt settings.level settings.limit

-- one level more; saturates at the greatest `usize`
unfoldable pub one_more : ℕ → ℕ
one_more n = min (n + 1) (2 ^ 64 - 1)

-- the settings one level deeper
abbrev pub level_up : Settings → Settings
level_up settings = record settings { level = one_more settings.level }

-- The settings in a function: level 0 under the depth for functions, with the flag that says that a function's body is
-- parsed and the one that requires strings as keys, if it is set; and the engine's options, with strict variables where
-- they are.
abbrev pub function_settings : Settings → (options limit : ℕ) → Settings
function_settings settings options limit = record {
  flags = bit_or bit.fn_scope (bit_and settings.flags bit.disallow_unquoted_map_properties);
  options = bit_or options (bit_and settings.options bit.strict_var);
  level = 0;
  limit = limit;
}

-- the bit of the flags that says that a closure's body is parsed
abbrev pub in_closure : Settings → Bool
in_closure settings = has settings.flags bit.closure_scope

-- the bit of the options that makes a closure an operand
abbrev pub closure_values : Settings → Bool
closure_values settings = has settings.options bit.anon_fn

-- The settings in a closure: the level and its limit stay; the flags that say that a function's and a closure's body is
-- parsed, and the two about blocks and the keys of object maps, where they are set; and the engine's options, without
-- strict variables.
abbrev pub closure_settings : Settings → (options : ℕ) → Settings
closure_settings settings options = record settings {
  flags = bit_or bit.closure_flags (bit_and settings.flags bit.kept_in_closures);
  options = bit_and options bit.all_but_strict_var;
}

abbrev at_level : ℕ → ℕ → Settings
at_level limit level = record { flags = 0; options = 0; level = level; limit = limit }

-- Under a limit of 2 the level may be raised twice, without a limit always, and the greatest level stays.
example : (level_up (at_level 2 0) ≡ at_level 2 1) × (may_raise (at_level 2 1) ≡ true)
    × (may_raise (at_level 2 2) ≡ false) × (may_raise (at_level 0 2) ≡ true)
    × (level_up (at_level 0 (2 ^ 64 - 1)) ≡ at_level 0 (2 ^ 64 - 1))
unfolding one_more
example = (refl, refl, refl, refl, refl)
