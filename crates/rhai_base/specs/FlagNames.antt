-- The names and bits of the flags and of the options.
use Rattle.std.specs.Prelude.{◌≡◌, List, [], ◌∷◌, Some, codes, refl}
use Rattle.rhai_grammar.specs.Flags as bit
use Rattle.bitflags.specs.Sets.{Row, known_bits, known_from, find_name, find_row}

-- the flags, with their bits
abbrev pub flag_names : List Row
flag_names =
    (codes "GLOBAL_LEVEL", bit.global_level)
    ∷ (codes "FN_SCOPE", bit.fn_scope)
    ∷ (codes "CLOSURE_SCOPE", bit.closure_scope)
    ∷ (codes "BREAKABLE", bit.breakable)
    ∷ (codes "DISALLOW_STATEMENTS_IN_BLOCKS", bit.disallow_statements_in_blocks)
    ∷ (codes "DISALLOW_UNQUOTED_MAP_PROPERTIES", bit.disallow_unquoted_map_properties)
    ∷ []

-- the options, with their bits
abbrev pub option_names : List Row
option_names =
    (codes "IF_EXPR", bit.if_expr)
    ∷ (codes "SWITCH_EXPR", bit.switch_expr)
    ∷ (codes "LOOP_EXPR", bit.loop_expr)
    ∷ (codes "STMT_EXPR", bit.stmt_expr)
    ∷ (codes "ANON_FN", bit.anon_fn)
    ∷ (codes "LOOPING", bit.looping)
    ∷ (codes "STRICT_VAR", bit.strict_var)
    ∷ (codes "SHADOWING", bit.shadowing)
    ∷ []

-- Six bits are flags, all eight are options, and `LOOPING` is bit 32.
example :
    (known_bits flag_names ≡ 63)
    × (known_bits option_names ≡ 255)
    × (find_name option_names (codes "LOOPING") ≡ Some 32)
unfolding known_from find_row
example = (refl, refl, refl)
