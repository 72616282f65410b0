-- Whether the numbers of a tree's variables are right. It is said of the plain tree alone: an evaluator that keeps the
-- names of the live variables finds each one at its number. Names are listed from the oldest to the latest; a number
-- counts from 1 at the latest.
use Rattle.std.specs.Prelude.{◌≡◌, ℕ, Bool, true, false, Option, Some, None, List, [], ◌∷◌, ◌++◌, map, codes, refl}
use Rattle.std.specs.Prelude.{if◌then◌else◌}
use Rattle.rhai_lower.specs.Nodes.{Arms, Block, Cases, Named, Node, Nodes, Optional, Properties, Statement}
use Rattle.rhai_lower.specs.Nodes.{Statements, absent, array, assignment, block_statement, block_value, boolean, braces}
use Rattle.rhai_lower.specs.Nodes.{break_loop, call, character, coalescing, conjunction, disjunction, do_statement, dot}
use Rattle.rhai_lower.specs.Nodes.{export_statement, expression, for_statement, if_statement, import_statement, index}
use Rattle.rhai_lower.specs.Nodes.{integer, interpolated, method_call, no_arms, no_cases, no_nodes, no_properties}
use Rattle.rhai_lower.specs.Nodes.{no_statements, noop, object_map, one_arm, one_case, one_node, one_property}
use Rattle.rhai_lower.specs.Nodes.{one_statement, pointer, present, property, return_statement, share, string}
use Rattle.rhai_lower.specs.Nodes.{switch_statement, this, try_catch, unit, var_statement, variable, while_statement}
use Rattle.rhai_lower.specs.Positions.{place}
use Rattle.rhai_lower.specs.Texts.{Text}
use Rattle.rhai_lower.specs.declared.position.Position.{Position}
use Rattle.rhai_lower.specs.Slots.{SlotValue, fresh_slot}
use Rattle.rhai_grammar.specs.Chains.{Link}
use Rattle.rhai_grammar.specs.Keys.{is_closure}
use Rattle.rhai_grammar.specs.Libraries.{Ended, Library}
use Rattle.rhai_grammar.specs.Slots.{number}
use Rattle.rhai_grammar.specs.Switches.{Collected}

-- ---- names

-- the names of slots
abbrev pub names_in : List SlotValue → List Text
names_in slots = map (λ s. s.name) slots

-- slots of these names
abbrev pub slots_of : List Text → List SlotValue
slots_of names = map (λ name. fresh_slot name false) names

-- the number of the latest of these names that is this one; none if there is none
abbrev pub number_among : Text → List Text → Option ℕ
number_among name names = number name (slots_of names)

abbrev pub has_path : List (Text × Position) → Bool
has_path [] = false
has_path _ = true

-- A name with a path refers to no slot. Any other has the number of its latest slot, and none if it has no slot.
abbrev pub IsWellNumbered : List Text → Named → Type 0
IsWellNumbered names v = v.number ≡ (if has_path v.path then None else number_among v.name names)

-- so it is with each of the names that become shared
abbrev pub AreWellShared : List Text → List (Text × Position × Option ℕ) → Type 0
AreWellShared names [] = Unit {0}
AreWellShared names (s ∷ shared) = (s.2 ≡ number_among s.0 names) × AreWellShared names shared

-- A definition with a number uses the slot with that number again, which is the latest of its name.
abbrev pub IsReused : List Text → Text → Option ℕ → Type 0
IsReused names name None = Unit {0}
IsReused names name (Some place) = number_among name names ≡ Some place

-- ---- the names after a statement, and in its blocks

-- A definition without a number has a slot of its own; no other statement leaves one.
abbrev pub names_after : Statement → List Text → List Text
names_after (var_statement name value None constant exported at) names = names ++ name ∷ []
names_after _ names = names

abbrev pub names_after_all : Statements → List Text → List Text
names_after_all no_statements names = names
names_after_all (one_statement f rest) names = names_after_all rest (names_after f names)

-- in the body of `for`: the counter, if there is one, and then the variable
abbrev pub names_in_loop : Text → (counter : Option Text) → List Text → List Text
names_in_loop name None names = names ++ name ∷ []
names_in_loop name (Some counter) names = (names ++ counter ∷ []) ++ name ∷ []

-- in the block of `catch`: its variable, if it has one
abbrev pub names_in_handler : Node → List Text → List Text
names_in_handler (variable v at) names = names ++ v.name ∷ []
names_in_handler _ names = names

-- the node of that variable, which itself has no number
abbrev pub IsHandled : Node → Type 0
IsHandled (variable v at) = (v.number ≡ None) × (v.path ≡ [])
IsHandled x = Unit {0}

-- ---- trees

-- The numbers in a tree are right where the variables of these names are live.
abbrev mutual
  pub WellNumbered : List Text → Node → Type 0
  WellNumbered names (variable v at) = IsWellNumbered names v
  WellNumbered names (interpolated xs at) = AllWellNumbered names xs
  WellNumbered names (array xs at) = AllWellNumbered names xs
  WellNumbered names (object_map properties at) = WellNumberedProperties names properties
  WellNumbered names (call called arguments at) = AllWellNumbered names arguments
  WellNumbered names (method_call called arguments at) = AllWellNumbered names arguments
  WellNumbered names (dot left right flags at) = WellNumbered names left × WellNumbered names right
  WellNumbered names (index left right flags at) = WellNumbered names left × WellNumbered names right
  WellNumbered names (conjunction xs at) = AllWellNumbered names xs
  WellNumbered names (disjunction xs at) = AllWellNumbered names xs
  WellNumbered names (coalescing xs at) = AllWellNumbered names xs
  WellNumbered names (block_value block) = WellNumberedBlock names block
  WellNumbered names (unit at) = Unit {0}
  WellNumbered names (boolean b at) = Unit {0}
  WellNumbered names (integer n at) = Unit {0}
  WellNumbered names (character c at) = Unit {0}
  WellNumbered names (string t at) = Unit {0}
  WellNumbered names (pointer name parameters at) = Unit {0}
  WellNumbered names (this at) = Unit {0}
  WellNumbered names (property name at) = Unit {0}

  pub AllWellNumbered : List Text → Nodes → Type 0
  AllWellNumbered names no_nodes = Unit {0}
  AllWellNumbered names (one_node x xs) = WellNumbered names x × AllWellNumbered names xs

  pub WellNumberedProperties : List Text → Properties → Type 0
  WellNumberedProperties names no_properties = Unit {0}
  WellNumberedProperties names (one_property key at x rest) =
      WellNumbered names x × WellNumberedProperties names rest

  pub WellNumberedOptional : List Text → Optional → Type 0
  WellNumberedOptional names absent = Unit {0}
  WellNumberedOptional names (present x) = WellNumbered names x

  -- The value of a definition comes before its slot.
  pub WellNumberedStatement : List Text → Statement → Type 0
  WellNumberedStatement names (noop at) = Unit {0}
  WellNumberedStatement names (if_statement guard body branch at) =
      WellNumbered names guard × WellNumberedBlock names body × WellNumberedBlock names branch
  WellNumberedStatement names (switch_statement item arms cases ranges default at) =
      WellNumbered names item × WellNumberedArms names arms × WellNumberedCases names cases
  WellNumberedStatement names (while_statement guard body at) =
      WellNumbered names guard × WellNumberedBlock names body
  WellNumberedStatement names (do_statement guard body negated at) =
      WellNumbered names guard × WellNumberedBlock names body
  WellNumberedStatement names (for_statement name counter over body at) =
      WellNumbered names over × WellNumberedBlock (names_in_loop name counter names) body
  WellNumberedStatement names (var_statement name value place constant exported at) =
      WellNumbered names value × IsReused names name place
  WellNumberedStatement names (assignment op target value at) = WellNumbered names target × WellNumbered names value
  WellNumberedStatement names (expression x) = WellNumbered names x
  WellNumberedStatement names (block_statement block) = WellNumberedBlock names block
  WellNumberedStatement names (try_catch body name handler at) =
      WellNumberedBlock names body × IsHandled name × WellNumberedBlock (names_in_handler name names) handler
  WellNumberedStatement names (break_loop value breaks at) = WellNumberedOptional names value
  WellNumberedStatement names (return_statement value throws at) = WellNumberedOptional names value
  WellNumberedStatement names (import_statement source name at) = WellNumbered names source
  WellNumberedStatement names (export_statement name alias at) = Unit {0}
  WellNumberedStatement names (share shared at) = AreWellShared names shared

  pub WellNumberedStatements : List Text → Statements → Type 0
  WellNumberedStatements names no_statements = Unit {0}
  WellNumberedStatements names (one_statement f rest) =
      WellNumberedStatement names f × WellNumberedStatements (names_after f names) rest

  pub WellNumberedBlock : List Text → Block → Type 0
  WellNumberedBlock names (braces fs start end) = WellNumberedStatements names fs

  pub WellNumberedArms : List Text → Arms → Type 0
  WellNumberedArms names no_arms = Unit {0}
  WellNumberedArms names (one_arm guard action arms) =
      WellNumbered names guard × WellNumbered names action × WellNumberedArms names arms

  pub WellNumberedCases : List Text → Cases → Type 0
  WellNumberedCases names no_cases = Unit {0}
  WellNumberedCases names (one_case value arms cases) = WellNumbered names value × WellNumberedCases names cases

-- So it is in each of these links, and in the arms and cases of a `switch` up to some arm.
abbrev pub AllLinks : List Text → List Link → Type 0
AllLinks names [] = Unit {0}
AllLinks names (link ∷ links) = WellNumbered names link.item × AllLinks names links

abbrev pub IsCollected : List Text → Collected → Type 0
IsCollected names before = WellNumberedArms names before.arms × WellNumberedCases names before.cases

-- A function or closure that captures these names has them as its first parameters, and then these of its own. The
-- numbers in its body are right where its own parameters are live; the captured names have no number there.
pub record WellNumberedFunction (captured own : List Text) (x : Ended) : Type 0 where
  pub parameters_are : x.function.parameters ≡ captured ++ own
  pub body : WellNumberedBlock own x.function.body

-- So it is for some captured names, of which a function that is no closure has none. The tree alone does not tell how
-- many a closure captures; `closure` and `function` in `TreesAreWellNumbered` name them.
pub record IsWellNumberedFunction (x : Ended) : Type 0 where
  pub captured : List Text
  pub own : List Text
  pub is : WellNumberedFunction captured own x
  pub none : is_closure x.key ≡ false → captured ≡ []

-- All functions of a library are so.
abbrev pub WellNumberedLibrary : Library → Type 0
WellNumberedLibrary [] = Unit {0}
WellNumberedLibrary (x ∷ library) = IsWellNumberedFunction x × WellNumberedLibrary library

-- ---- an example

abbrev example_use : Option ℕ → Text → (column : ℕ) → Node
example_use number name column =
    variable (record { number = number; name = name; path = []; module_index = None }) (place 1 column)

abbrev example_define : Option ℕ → Text → Node → (column : ℕ) → Statement
example_define number name value column = var_statement name value number false false (place 1 column)

-- `let x = y; { let y = x; y } x`
abbrev example_block : Statements
example_block =
    one_statement (example_define None (codes "y") (example_use (Some 1) (codes "x") 21) 13) (
    one_statement (expression (example_use (Some 1) (codes "y") 24)) no_statements)

abbrev example_tree : Statements
example_tree =
    one_statement (example_define None (codes "x") (example_use None (codes "y") 9) 1) (
    one_statement (block_statement (braces example_block (place 1 12) (place 1 26))) (
    one_statement (expression (example_use (Some 1) (codes "x") 28)) no_statements))

-- a function with these parameters whose body is one expression
abbrev example_function : List Text → Node → Ended
example_function parameters x = record {
  key = record { this_type = None; name = codes "f"; params = 1 };
  function = record {
    this_type = None;
    name = codes "f";
    is_private = false;
    parameters = parameters;
    comments = [];
    body = braces (one_statement (expression x) no_statements) (place 1 9) (place 1 13);
  };
}

-- Before it, `y` has no slot; in the block it is the latest, and after the block it is gone, so that `x` has number 1.
-- In a function `fn f(x) { x }` the only variable has number 1. In the body of `|x| y`, which captures `y`, that has no
-- number, though it is a parameter.
example : WellNumberedStatements [] example_tree × (names_after_all example_tree [] ≡ codes "x" ∷ [])
    × (number_among (codes "x") (codes "x" ∷ codes "y" ∷ []) ≡ Some 2)
    × WellNumberedFunction [] (codes "x" ∷ []) (example_function (codes "x" ∷ []) (
    example_use (Some 1) (codes "x") 11))
    × WellNumberedFunction (codes "y" ∷ []) (codes "x" ∷ []) (example_function (codes "y" ∷ codes "x" ∷ []) (
    example_use None (codes "y") 5))
unfolding number
example = (
  ((refl, tt), (((refl, tt), (refl, tt)), (refl, tt))),
  refl,
  refl,
  record { parameters_are = refl; body = (refl, tt) },
  record { parameters_are = refl; body = (refl, tt) },
)
