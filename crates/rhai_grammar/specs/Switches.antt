-- Arms of `switch`: what each token is, and what they give. It says what a token is where an arm may begin and after an
-- arm, and which value leads to which of them.
use Rattle.std.specs.Prelude.{◌≡◌, ℕ, ◌+◌, pos, Bool, true, false, ◌&&◌, not, Option, Some, None, List, [], ◌∷◌, ◌++◌}
use Rattle.std.specs.Prelude.{codes, if◌then◌else◌, refl}
use Rattle.std.specs.Option.{option_or}
use Rattle.rhai_lower.specs.Positions.{nowhere, place}
use Rattle.rhai_lower.specs.Lexemes.{Lexeme, Sign}
use Rattle.rhai_lower.specs.Nodes as node
use Rattle.rhai_lower.specs.Nodes.{Arms, Cases, Node, Nodes, boolean, integer, no_nodes, one_node, start_of, string}
use Rattle.rhai_lower.specs.Nodes.{switch_statement, with_arm}
use Rattle.rhai_lower.specs.declared.node.RangeCase.{RangeCase}
use Rattle.rhai_lower.specs.declared.position.Position.{Position}
use Rattle.rhai_lower.specs.declared.token.Token.{Token}
use Rattle.rhai_lower.specs.declared.token.Token.TheVariants as token
use Rattle.rhai_grammar.specs.CaseValues.{IntegerRange, example_number, example_range, is_empty_range, range_of}
use Rattle.rhai_grammar.specs.CaseValues.{is_literal_value, same_value}
use Rattle.rhai_grammar.specs.Causes as cause
use Rattle.rhai_grammar.specs.Causes.{Refusal, refusal}
use Rattle.rhai_grammar.specs.Demands.{Verdict, Fine, Wrong}
use Rattle.rhai_grammar.specs.Statements.{ends_itself}
use Rattle.rhai_grammar.specs.declared.role.ArmRole.{ArmRole}
use Rattle.rhai_grammar.specs.declared.role.ArmRole.TheVariants as arm

-- ---- where an arm may begin

abbrev pub sign_arm : Token → ArmRole
sign_arm token.Underscore = arm.Default
sign_arm token.RightBrace = arm.Close
sign_arm token.EOF = arm.Nothing
sign_arm _ = arm.Case

-- what a token is there
abbrev pub arm_role : Lexeme → ArmRole
arm_role (Sign t) = sign_arm t
arm_role _ = arm.Case

-- ---- the action of an arm

-- A statement has to be there.
abbrev pub action_due : Lexeme → Verdict
action_due (Sign token.EOF) = Wrong cause.UnexpectedEOF
action_due _ = Fine

-- The tree of a statement after which an arm needs no comma: a construct but for `do`.
abbrev pub ends_arm : node.Statement → Bool
ends_arm (node.noop p) = false
ends_arm f = ends_itself f

-- ---- what the arms give

-- what the arms of a `switch` give: guards with actions, cases by value, the ranges that are not empty, and the index
-- of the default arm
pub record Collected : Type 0 where
  pub arms : Arms
  pub cases : Cases
  pub ranges : List RangeCase
  pub default : Option ℕ

abbrev pub nothing_collected : Collected
nothing_collected = record { arms = node.no_arms; cases = node.no_cases; ranges = []; default = None }

abbrev pub arm_count : Arms → ℕ
arm_count node.no_arms = 0
arm_count (node.one_arm guard action arms) = arm_count arms + 1

-- A value leads to one more arm, with this index: after the arms to which an equal value leads, or as a case of its
-- own.
abbrev pub with_value : Cases → Node → (index : ℕ) → Cases
with_value node.no_cases x index = node.one_case x (index ∷ []) node.no_cases
with_value (node.one_case value indices cases) x index =
    if same_value value x then node.one_case value (indices ++ (index ∷ [])) cases else
    node.one_case value indices (with_value cases x index)

abbrev pub range_case : IntegerRange → (index : ℕ) → RangeCase
range_case r index = record { first = r.first; last = r.last; is_inclusive = r.is_inclusive; index = index }

-- a range that is not empty, with the arm to which it leads
abbrev pub listed_range : Option IntegerRange → (index : ℕ) → List RangeCase
listed_range None index = []
listed_range (Some r) index = if is_empty_range r then [] else range_case r index ∷ []

-- one more case of the arm with this index
abbrev pub with_case : (index : ℕ) → Collected → Node → Collected
with_case index before x = record before {
  cases = with_value before.cases x index;
  ranges = before.ranges ++ listed_range (range_of x) index;
}

abbrev pub with_cases : (index : ℕ) → Collected → Nodes → Collected
with_cases index before no_nodes = before
with_cases index before (one_node x xs) = with_cases index (with_case index before x) xs

-- one more arm, with its cases
abbrev pub with_arm_collected : Collected → (cases : Nodes) → (guard action : Node) → Collected
with_arm_collected before cases guard action =
    with_cases (arm_count before.arms) (record before { arms = with_arm before.arms guard action }) cases

-- an absent guard
abbrev pub no_guard : Node
no_guard = boolean true nowhere

abbrev pub with_default_collected : Collected → (action : Node) → Collected
with_default_collected before action = record before {
  arms = with_arm before.arms no_guard action;
  default = Some (arm_count before.arms);
}

-- the `switch` with this item and these arms
abbrev pub switch_tree : Node → Collected → Position → node.Statement
switch_tree item x at = switch_statement item x.arms x.cases x.ranges x.default at

-- ---- tests

abbrev pub is_integer : Node → Bool
is_integer (integer n p) = true
is_integer _ = false

abbrev pub has_ranges : List RangeCase → Bool
has_ranges [] = false
has_ranges (r ∷ rs) = true

-- A case is a literal value, and an integer stands before all ranges that are not empty.
abbrev pub case_fault : Collected → Node → Option Refusal
case_fault before x =
    if not (is_literal_value x) then Some (refusal (cause.ExprExpected (codes "a literal")) (start_of x)) else
    if is_integer x && has_ranges before.ranges then Some (refusal cause.WrongSwitchIntegerCase (start_of x)) else None

abbrev pub fault_from : (index : ℕ) → Collected → Nodes → Option Refusal
fault_from index before no_nodes = None
fault_from index before (one_node x xs) =
    option_or (case_fault before x) (fault_from index (with_case index before x) xs)

-- the error for the first case of one more arm that is refused
abbrev pub arm_fault : Collected → (cases : Nodes) → Option Refusal
arm_fault before cases = fault_from (arm_count before.arms) before cases

-- ---- examples

-- `0..5 | "a" => 1, "a" => 2`
abbrev example_first : Node
example_first = example_range token.ExclusiveRange (pos 0) (example_number (pos 5))

abbrev example_text : (line : ℕ) → Node
example_text line = string (codes "a") (place line 1)

abbrev example_before : Collected
example_before =
    with_arm_collected nothing_collected (one_node example_first (one_node (example_text 1) no_nodes)) no_guard
    (example_number (pos 1))

abbrev example_after : Collected
example_after = with_arm_collected example_before (one_node (example_text 2) no_nodes) no_guard (example_number (pos 2))

-- The text leads to both arms, the range to the first; after it an integer is refused. The end mark is no action.
example : (example_after.cases
    ≡ node.one_case example_first (0 ∷ []) (node.one_case (example_text 1) (0 ∷ 1 ∷ []) node.no_cases))
    × (example_after.ranges ≡ record { first = pos 0; last = pos 5; is_inclusive = false; index = 0 } ∷ [])
    × (arm_fault example_after (one_node (example_number (pos 3)) no_nodes)
    ≡ Some (refusal cause.WrongSwitchIntegerCase (place 1 4)))
    × (action_due (Sign token.EOF) ≡ Wrong cause.UnexpectedEOF)
example = (refl, refl, refl, refl)
