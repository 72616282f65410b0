-- Constructs: where each is allowed, and what is refused inside them.
use Rattle.std.specs.Prelude.{◌≡◌, Bool, true, false, Option, Some, None, codes, pos, refl}
use Rattle.rhai_lower.specs.Texts.{Text}
use Rattle.rhai_lower.specs.Positions.{place}
use Rattle.rhai_lower.specs.Lexemes.{Lexeme, Sign}
use Rattle.rhai_lower.specs.Nodes.{Node, integer, start_of}
use Rattle.rhai_lower.specs.declared.token.Token.{Token}
use Rattle.rhai_lower.specs.declared.token.Token.TheVariants as token
use Rattle.rhai_grammar.specs.Causes as cause
use Rattle.rhai_grammar.specs.Causes.{Cause, Refusal, refusal}
use Rattle.rhai_grammar.specs.Contexts.{Context, allows_looping, has_block_values, has_if_values, has_loop_values}
use Rattle.rhai_grammar.specs.Contexts.{has_switch_values}
use Rattle.rhai_grammar.specs.Kinds.{not_boolean, not_iterable}
use Rattle.rhai_grammar.specs.declared.role.Construct.{Construct}
use Rattle.rhai_grammar.specs.declared.role.Construct.TheVariants as construct

-- A construct may be a statement: a loop, where the engine lets scripts have loops.
abbrev pub may_stand : Context → Construct → Bool
may_stand context construct.While = allows_looping context
may_stand context construct.Loop = allows_looping context
may_stand context construct.Do = allows_looping context
may_stand context construct.For = allows_looping context
may_stand context _ = true

-- A construct may be an operand: a block, `if` and `switch` by an option each; the loops by one that they share, where
-- the engine lets scripts have loops; no other.
abbrev pub may_be_value : Context → Construct → Bool
may_be_value context construct.Block = has_block_values context
may_be_value context construct.If = has_if_values context
may_be_value context construct.Switch = has_switch_values context
may_be_value context construct.While = has_loop_values context
may_be_value context construct.Loop = has_loop_values context
may_be_value context construct.Do = has_loop_values context
may_be_value context construct.For = has_loop_values context
may_be_value context _ = false

-- A guard does not begin with `{`; nor does what `for` goes over.
abbrev pub guard_expected : Cause
guard_expected = cause.ExprExpected (codes "a boolean")

-- A guard is not assigned to.
abbrev pub no_assignment : Cause
no_assignment = cause.BadInput (cause.ImproperSymbol (codes "="))

-- the error for a node that is of the wrong kind, if it is of one
abbrev pub type_fault : (due : Text) → Node → Option Text → Option Refusal
type_fault due x None = None
type_fault due x (Some found) = Some (refusal (cause.MismatchedType due found) (start_of x))

-- A guard may not be what is never a boolean.
abbrev pub guard_fault : Node → Option Refusal
guard_fault x = type_fault (codes "a boolean expression") x (not_boolean x)

-- What `for` goes over may not be what is never iterable.
abbrev pub iterated_fault : Node → Option Refusal
iterated_fault x = type_fault (codes "an iterable value") x (not_iterable x)

-- ---- the end of `do`

abbrev pub sign_ends_do : Token → Option Bool
sign_ends_do token.While = Some false
sign_ends_do token.Until = Some true
sign_ends_do _ = None

-- After the block of `do` stands `while` or, to negate the guard, `until`.
abbrev pub do_end : Lexeme → Option Bool
do_end (Sign t) = sign_ends_do t
do_end _ = None

-- A number is no guard; `until` ends a `do` and negates its guard, and `{` does not end it.
example : (guard_fault (integer (pos 1) (place 1 4))
    ≡ Some (refusal (cause.MismatchedType (codes "a boolean expression") (codes "a number")) (place 1 4)))
    × (do_end (Sign token.Until) ≡ Some true) × (do_end (Sign token.LeftBrace) ≡ None)
example = (refl, refl, refl)
