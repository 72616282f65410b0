-- The flags and the options of settings, by their bits.
use Rattle.std.specs.Prelude.{◌≡◌, ℕ, ◌+◌, ◌==◌, Bool, refl}
use Rattle.std.specs.Int.RustNames.{bit_and}

-- All of these bits are set.
abbrev pub has : (bits wanted : ℕ) → Bool
has bits wanted = bit_and bits wanted == wanted

-- ---- flags: where a construct is, and what it must not contain

-- the global level of a script
abbrev pub global_level : ℕ
global_level = 1

-- the body of a function or of a closure
abbrev pub fn_scope : ℕ
fn_scope = 2

-- the body of a closure
abbrev pub closure_scope : ℕ
closure_scope = 4

-- the body of a loop
abbrev pub breakable : ℕ
breakable = 8

-- A block is one expression or assignment.
abbrev pub disallow_statements_in_blocks : ℕ
disallow_statements_in_blocks = 16

-- The keys of object maps are strings.
abbrev pub disallow_unquoted_map_properties : ℕ
disallow_unquoted_map_properties = 32

-- every bit but that of the global level
abbrev pub all_but_global_level : ℕ
all_but_global_level = 254

-- what the body of a closure has
abbrev pub closure_flags : ℕ
closure_flags = 6

-- what the body of a closure has, too, where it is set around the closure
abbrev pub kept_in_closures : ℕ
kept_in_closures = 48

-- what one expression is read under
abbrev pub expression_flags : ℕ
expression_flags = 17

-- ---- options: the parts of the language that may be used

-- An `if` is an operand.
abbrev pub if_expr : ℕ
if_expr = 1

-- A `switch` is an operand.
abbrev pub switch_expr : ℕ
switch_expr = 2

-- A loop is an operand.
abbrev pub loop_expr : ℕ
loop_expr = 4

-- A block is an operand.
abbrev pub stmt_expr : ℕ
stmt_expr = 8

-- A closure is an operand.
abbrev pub anon_fn : ℕ
anon_fn = 16

-- There are loops.
abbrev pub looping : ℕ
looping = 32

-- Variables and modules have to be known.
abbrev pub strict_var : ℕ
strict_var = 64

-- A variable may shadow one of its name.
abbrev pub shadowing : ℕ
shadowing = 128

-- all options
abbrev pub every_option : ℕ
every_option = 255

-- every option but strict variables: those of a new engine
abbrev pub all_but_strict_var : ℕ
all_but_strict_var = 191

-- those of a new engine for one expression: no blocks and loops as operands
abbrev pub expression_options : ℕ
expression_options = 179

-- Each set of bits is the sum of those that it has.
example : (all_but_global_level + global_level ≡ 255) × (closure_flags ≡ fn_scope + closure_scope)
    × (kept_in_closures ≡ disallow_statements_in_blocks + disallow_unquoted_map_properties)
    × (expression_flags ≡ global_level + disallow_statements_in_blocks)
    × (every_option ≡ if_expr + switch_expr + loop_expr + stmt_expr + anon_fn + looping + strict_var + shadowing)
    × (all_but_strict_var + strict_var ≡ every_option)
    × (expression_options + stmt_expr + loop_expr ≡ all_but_strict_var)
example = (refl, refl, refl, refl, refl, refl, refl)
