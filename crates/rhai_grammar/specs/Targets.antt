-- What may be assigned to: `this`, variables not constant, and parts of these. Such a part is a property or an item.
use Rattle.std.specs.Prelude.{◌≡◌, ℕ, Bool, true, false, List, [], ◌∷◌, Option, Some, None, codes, refl, pos}
use Rattle.std.specs.Prelude.{if◌then◌else◌}
use Rattle.std.specs.Option.{option_or}
use Rattle.rhai_lower.specs.Tokens.{assigns}
use Rattle.rhai_lower.specs.Positions.{place}
use Rattle.rhai_lower.specs.Texts.{Text}
use Rattle.rhai_lower.specs.Slots.{SlotValue, fresh_slot}
use Rattle.rhai_lower.specs.Lexemes.{Lexeme, Sign}
use Rattle.rhai_lower.specs.Nodes.{Node, Named, coalescing, conjunction, disjunction, dot, index, integer}
use Rattle.rhai_lower.specs.Nodes.{method_call, position_of, this, variable}
use Rattle.rhai_lower.specs.declared.position.Position.{Position}
use Rattle.rhai_lower.specs.declared.token.Token.{Token}
use Rattle.rhai_lower.specs.declared.token.Token.TheVariants.{Equals}
use Rattle.rhai_grammar.specs.Causes as cause
use Rattle.rhai_grammar.specs.Causes.{Refusal, refusal}
use Rattle.rhai_grammar.specs.Chains.{Chain, Link, LinkKind, Dotted, chain_of}
use Rattle.rhai_grammar.specs.Kinds.{is_constant}
use Rattle.rhai_grammar.specs.Slots.{slot_from_latest}

abbrev pub is_equals_sign : Token → Bool
is_equals_sign Equals = true
is_equals_sign _ = false

-- the token `=`
abbrev pub is_equals : Lexeme → Bool
is_equals (Sign t) = is_equals_sign t
is_equals _ = false

abbrev pub is_update : Lexeme → Bool
is_update (Sign t) = assigns t
is_update _ = false

-- a token that makes an expression before it the target of an assignment: `=`, or one such as `+=`
abbrev pub is_assignment : Lexeme → Bool
is_assignment l = if is_equals l then true else is_update l

-- the token of an assignment in the tree, where `=` is left out
abbrev pub update_of : Lexeme → Option Lexeme
update_of l = if is_equals l then None else Some l

abbrev pub invalid : Position → Refusal
invalid at = refusal (cause.AssignmentToInvalidLHS []) at

-- the number of a variable's slot, if it has one
abbrev pub slot_of : Node → Option ℕ
slot_of (variable v p) = v.number
slot_of _ = None

-- the slot with this number is constant; without a number, there is none
abbrev pub is_constant_at : List SlotValue → Option ℕ → Bool
is_constant_at slots None = false
is_constant_at slots (Some place) = (slot_from_latest slots place).constant

-- a variable whose slot is constant
abbrev pub is_constant_use : List SlotValue → Node → Bool
is_constant_use slots x = is_constant_at slots (slot_of x)

abbrev pub variable_fault : (constant : Bool) → Text → Position → Option Refusal
variable_fault constant name at = if constant then Some (refusal (cause.AssignmentToConstant name) at) else None

-- a method call after a dot
abbrev pub item_fault : LinkKind → Node → Option Refusal
item_fault Dotted (method_call c arguments at) = Some (invalid at)
item_fault _ _ = None

-- the error for the first method call among links
abbrev pub links_fault : List Link → Option Refusal
links_fault [] = None
links_fault (l ∷ ls) = option_or (item_fault l.kind l.item) (links_fault ls)

abbrev pub root_fault : Node → Option Refusal
root_fault (this p) = None
root_fault (variable v p) = None
root_fault x = Some (invalid (position_of x))

-- A chain has no method call, and begins with a variable or `this`; a method call is reported first.
abbrev pub chain_fault : Chain → Option Refusal
chain_fault c = option_or (links_fault c.links) (root_fault c.root)

-- A list of `&&`, `||` or `??`: `=` is refused where it is, and other assignments at the list.
abbrev pub list_fault : (op : Lexeme) → (at list_at : Position) → Option Refusal
list_fault op at list_at =
    if is_equals op then Some (refusal (cause.BadInput (cause.ImproperSymbol (codes "="))) at)
    else Some (invalid list_at)

abbrev pub value_fault : (constant : Bool) → Position → Option Refusal
value_fault true at = Some (refusal (cause.AssignmentToConstant []) at)
value_fault false at = Some (invalid at)

-- The error for the target of an assignment, whose token `op` is at this position; none if it may be assigned to.
-- `constant` says that the target is a variable whose slot is constant.
abbrev pub target_fault : (constant : Bool) → (op : Lexeme) → (at : Position) → (target : Node) → Option Refusal
target_fault constant op at (this p) = None
target_fault constant op at (variable v p) = variable_fault constant v.name p
target_fault constant op at (dot x y m p) = chain_fault (chain_of (dot x y m p))
target_fault constant op at (index x y m p) = chain_fault (chain_of (index x y m p))
target_fault constant op at (conjunction ns p) = list_fault op at p
target_fault constant op at (disjunction ns p) = list_fault op at p
target_fault constant op at (coalescing ns p) = list_fault op at p
target_fault constant op at x = value_fault (is_constant x) (position_of x)

-- `1 = 2`, and `x = 2` where `x` is a constant
abbrev example_slots : List SlotValue
example_slots = fresh_slot (codes "x") true ∷ []

abbrev example_variable : Named
example_variable = record { number = Some 1; name = codes "x"; path = []; module_index = None }

abbrev example_use : Node
example_use = variable example_variable (place 1 1)

example : (target_fault false (Sign Equals) (place 1 3) (integer (pos 1) (place 1 1))
    ≡ Some (refusal (cause.AssignmentToConstant []) (place 1 1)))
    × (target_fault (is_constant_use example_slots example_use) (Sign Equals) (place 1 3) example_use
    ≡ Some (refusal (cause.AssignmentToConstant (codes "x")) (place 1 1)))
example = (refl, refl)
