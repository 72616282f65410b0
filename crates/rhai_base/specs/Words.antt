-- What a reserved word and a name give.
use Rattle.std.specs.Prelude.{◌≡◌, Bool, true, false, ◌&&◌, ◌||◌, not, List, [], ◌∷◌, None, Some, Result, Ok, Err}
use Rattle.std.specs.Prelude.{if◌then◌else◌, codes, refl}
use Rattle.std.specs.Option.{is_some}
use Rattle.rhai_lower.specs.Texts.{Text}
use Rattle.rhai_lower.specs.Positions.{place}
use Rattle.rhai_lower.specs.Slots.{SlotValue, fresh_slot, is_declared}
use Rattle.rhai_lower.specs.Nodes.{Node, this}
use Rattle.rhai_lower.specs.declared.position.Position.{Position}
use Rattle.rhai_grammar.specs.Beginnings.{is_this, may_be_called}
use Rattle.rhai_grammar.specs.Causes as cause
use Rattle.rhai_grammar.specs.Causes.{Refusal, refusal}
use Rattle.rhai_grammar.specs.Contexts.{Known}
use Rattle.rhai_grammar.specs.Flags.{global_level}
use Rattle.rhai_grammar.specs.Settings.{Settings, is_in_function}
use Rattle.rhai_grammar.specs.Libraries.{Library, is_function}
use Rattle.rhai_grammar.specs.Slots.{number}
use Rattle.rhai_grammar.specs.Trees.{name_tree, variable_of}

-- `this` outside of functions
abbrev pub no_this : Text → Position → Refusal
no_this word at = refusal (cause.BadInput (cause.ImproperSymbol word)) at

abbrev pub word_result : Settings → Text → (called : Bool) → Position → Result Node Refusal
word_result c word called at =
    if may_be_called word && called then Ok (variable_of None word at) else
    if is_this word then (if is_in_function c then Ok (this at) else Err (no_this word at)) else
    Err (refusal (cause.Reserved word) at)

-- A name: under strict variables it has to be known, if it is used as a variable. `excluded` says that it is no use of
-- one.
abbrev pub name_result : Known → List SlotValue → Library → (strict excluded : Bool) → Text → Position
    → Result Node Refusal
name_result known slots library strict excluded name at =
    if excluded || (not strict || (is_some (number name slots)
    || (is_function library name || is_declared name known.variables)))
    then Ok (name_tree slots excluded name at)
    else Err (refusal (cause.VariableUndefined name) at)

abbrev example_settings : Settings
example_settings = record { flags = global_level; options = 0; level = 0; limit = 0 }

-- the caller gives `y`
abbrev example_known : Known
example_known = record { variables = fresh_slot (codes "y") false ∷ []; imports = []; modules = [] }

abbrev example_name : (strict excluded : Bool) → Text → Result Node Refusal
example_name strict excluded name =
    name_result example_known (fresh_slot (codes "x") false ∷ []) [] strict excluded name (place 1 1)

-- At global level `print` may be called and nothing else; `this` has no place there. After `let x`, strict variables
-- leave `x` and `y`, and refuse `z`, unless it is called.
example : (word_result example_settings (codes "print") true (place 1 1)
    ≡ Ok (variable_of None (codes "print") (place 1 1)))
    × (word_result example_settings (codes "print") false (place 1 1)
    ≡ Err (refusal (cause.Reserved (codes "print")) (place 1 1)))
    × (word_result example_settings (codes "this") true (place 1 1) ≡ Err (no_this (codes "this") (place 1 1)))
    × (example_name true false (codes "x") ≡ Ok (variable_of (Some 1) (codes "x") (place 1 1)))
    × (example_name true false (codes "y") ≡ Ok (variable_of None (codes "y") (place 1 1)))
    × (example_name true false (codes "z") ≡ Err (refusal (cause.VariableUndefined (codes "z")) (place 1 1)))
    × (example_name true true (codes "z") ≡ Ok (variable_of None (codes "z") (place 1 1)))
    × (example_name false false (codes "z") ≡ Ok (variable_of None (codes "z") (place 1 1)))
unfolding number
example = (refl, refl, refl, refl, refl, refl, refl, refl)
