-- Goals: what is read somewhere, in which context, and what it gives.
use Rattle.std.specs.Prelude.{ℕ, Bool, true, false, Option, List}
use Rattle.rhai_lower.specs.Texts.{Text}
use Rattle.rhai_lower.specs.Nodes.{Node, Nodes, Properties, no_statements, Optional}
use Rattle.rhai_lower.specs.declared.position.Position.{Position}
use Rattle.rhai_grammar.specs.Libraries.{Ended}
use Rattle.rhai_grammar.specs.Comments.{Comment}
use Rattle.rhai_grammar.specs.Contexts.{Context, Live}
use Rattle.rhai_grammar.specs.Spots.{LinkSpot}
use Rattle.rhai_grammar.specs.Chains.{Link}
use Rattle.rhai_grammar.specs.Switches.{Collected}
use Rattle.rhai_grammar.specs.declared.role.Bars.{Bars}
use Rattle.rhai_grammar.specs.declared.filter.ExprFilter.{ExprFilter}
use Rattle.rhai_grammar.specs.declared.list.CommaList.{CommaList}
use Rattle.rhai_grammar.specs.declared.role.Closing.{Closing}
use Rattle.rhai_grammar.specs.declared.role.Closing.TheVariants.{EndMark}
use Rattle.rhai_grammar.specs.declared.role.Construct.{Construct as Kind}
use Rattle.rhai_grammar.specs.declared.role.OperandRole.{OperandRole}
use Rattle.rhai_lower.specs.Nodes as node

-- What is read by a call: a constructor for each reader of the code, with what it is given.
pub data Goal : Type 0 where
  -- an expression up to the end mark
  Whole : Context → Live → Goal
  Expression : Context → Live → Goal
  -- a written operand with its signs and its call
  Operand : Context → Live → Goal
  -- an operand of this role after an operator
  RightOperand : Context → Live → OperandRole → Goal
  Primary : Context → Live → Goal
  -- what calls a name, which may have a path: whether it has a `!`, and the arguments; at is where the raise of their
  -- level is refused
  Called : Context → Live → (at : Position) (qualified : Bool) → Goal
  -- the names after a name, of which this is the node so far; a `::` comes next
  Path : Live → (name : Node) → Goal
  -- the links after an operand, up to what is no link
  Links : Live → LinkSpot → Goal
  -- the index in a bracket up to the `]`; whose index it is, if that is tested
  Index : Context → Live → (indexed : Option Node) → Goal
  -- the member after a dot
  Member : Context → Live → Goal
  -- what calls an operand, if it is a variable
  Postfix : Context → Live → (operand : Node) → Goal
  -- the arguments after a `(`; at is where the raise of their level is refused
  Arguments : Context → Live → (at : Position) → Goal
  -- an argument, and those that follow, after these
  Items : Context → Live → (before : Nodes) → Goal
  -- the items of an array, after these, up to the `]`; at is where the raise of each level is refused
  Elements : Context → Live → (at : Position) (before : Nodes) → Goal
  -- the properties of an object map, after these, up to the `}`
  Fields : Context → Live → (at : Position) (before : Properties) → Goal
  -- the blocks and texts of an interpolated string, after these segments; start is its first text
  Segments : Context → Live → (start : Position) (before : Nodes) → Goal
  -- the `}` of a block in an interpolated string, and the text after it
  TextAfter : Goal
  -- what follows `return`, `throw` or `break`, which is at a position: a value, or nothing
  Jump : Context → Live → (at : Position) → Goal
  -- the key of one more property, with its colon; none where the `}` is
  NextKey : Context → (before : Properties) → Goal
  -- what stands after an operand under a filter: an operator's strength, and whether equal ones group to the right
  NextOperator : ExprFilter → Goal
  -- the operators after a left operand that go on with a run of this strength; at is where the next raise is refused
  BinaryOp : Context → Live → (at : Position) (parent : ℕ) (lhs : Node) → Goal
  -- an expression or an assignment
  ExprStatement : Context → Live → Goal
  -- the name of a definition
  VarName : Context → Live → Goal
  -- the value of a definition, which is unit where it is absent; at is where the raise of its level is refused
  Initializer : Context → Live → (at : Position) → Goal
  -- a definition after its keyword, which is at a position
  Definition : Context → Live → (at : Position) (constant exported : Bool) → Goal
  -- what follows `import`, which is at a position
  Import : Context → Live → (at : Position) → Goal
  -- what follows `export`, which is at a position
  Export : Context → Live → (at : Position) → Goal
  -- another name, after `as`, if there is one
  Alias : Goal
  Statement : Context → Live → Goal
  -- the statements of a list, after these, up to the token that closes it
  Statements : Closing → Context → Live → (before : node.Statements) → Goal
  -- the `{` of a block
  BlockStart : Goal
  -- the statements of a block, up to its `}`
  Inside : Context → Live → Goal
  -- a block after its `{`, which is at a position
  Block : Context → Live → (at : Position) → Goal
  -- the `}` of a block of these statements
  BlockEnd : (at : Position) (statements : node.Statements) → Goal
  -- a construct of this kind after its first token, which is at a position
  Construct : Context → Live → (at : Position) → Kind → Goal
  -- a block from its `{`, of a construct that is at a position
  Braced : Context → Live → (at : Position) → Goal
  -- a guard
  Guard : Context → Live → Goal
  -- what `for` goes over
  Iterated : Context → Live → Goal
  -- what follows `if`, which is at a position
  Conditional : Context → Live → (at : Position) → Goal
  -- what follows the block of an `if`, which is at a position
  Branch : Context → Live → (at : Position) → Goal
  -- the variables of `for`, and its `in`
  LoopNames : Goal
  -- `catch`, and its variable
  Catch : Goal
  -- the `while` or `until` after the block of `do`
  DoEnd : Goal
  -- the arms of `switch`, after those that were collected, up to the `}`
  Arms : Context → Live → (before : Collected) → Goal
  -- an arm with cases, after those that were collected
  Arm : Context → Live → (before : Collected) → Goal
  -- the default arm after its `_`, which is at a position, up to the `}`
  DefaultArm : Context → Live → (default : Position) → Goal
  -- the cases of an arm, after these
  Cases : Context → Live → (before : Nodes) → Goal
  -- one case of an arm, whose refusals are those of a missing literal
  Case : Context → Live → Goal
  -- the guard of an arm, if it has one
  CaseGuard : Context → Live → Goal
  -- what an arm does, and whether it needs no comma after it
  Action : Context → Live → Goal
  -- what follows an arm: a comma, or what may stand there without one, if the arm needs none
  ArmEnd : (itself : Bool) → Goal
  -- the `}` after the default arm, whose `_` is at a position
  DefaultEnd : (default : Position) → Goal
  -- the doc comments that follow, after these
  Comments : (before : List Comment) → Goal
  -- a function with these doc comments after its `fn`, which is at a position, as a statement whose `private` or `fn`
  -- is at another
  FunctionStatement : Context → Live → List Comment → (first at : Position) (is_private : Bool) → Goal
  -- a function with these doc comments, under its own settings, up to the end of its body
  Function : Context → List Comment → (at : Position) (is_private : Bool) → Goal
  -- its name, with the type of its objects, if it has one
  FunctionHead : Goal
  -- its parameters, after its name
  ParameterList : (function : Text) → Goal
  -- the parameters of a function or of a closure, up to what closes them, after these
  Parameters : (parts : CommaList) (function : Text) (before : List Text) → Goal
  -- a closure after its first token, which is at a position
  Closure : Context → Live → (at : Position) → Bars → Goal
  -- the statement of a closure, or nothing before the end mark
  ClosureBody : Context → Live → Goal

-- a script, up to the end mark
abbrev pub Script : Context → Live → Goal
Script context live = Statements EndMark context live no_statements

-- what it gives
abbrev pub Val : Goal → Type 0
Val (Whole context live) = Node
Val (Expression context live) = Node
Val (Operand context live) = Node
Val (RightOperand context live place) = Node
Val (Primary context live) = Node
Val (Called context live at qualified) = Bool × Nodes
Val (Path live name) = Node
Val (Links live spot) = List Link
Val (Index context live indexed) = Node
Val (Member context live) = Node
Val (Postfix context live x) = Node
Val (Arguments context live at) = Nodes
Val (Items context live before) = Nodes
Val (Elements context live at before) = Nodes
Val (Fields context live at before) = Properties
Val (Segments context live start before) = Nodes
Val TextAfter = Position × Text × Bool × Position
Val (Jump context live at) = Optional
Val (NextKey context before) = Option (Text × Position)
Val (NextOperator filter) = Option (ℕ × Bool)
Val (BinaryOp context live at parent lhs) = Node
Val (ExprStatement context live) = node.Statement
Val (VarName context live) = Text × Position
Val (Initializer context live at) = Node
Val (Definition context live at constant exported) = node.Statement × Live
Val (Import context live at) = node.Statement × Live
Val (Export context live at) = node.Statement × Live
Val Alias = Option Text
Val (Statement context live) = node.Statement × Live
Val (Statements closing context live before) = node.Statements × Live
Val BlockStart = Position
Val (Inside context live) = node.Statements
Val (Block context live at) = node.Block
Val (BlockEnd at fs) = node.Block
Val (Construct context live at kind) = node.Statement
Val (Braced context live at) = node.Block
Val (Guard context live) = Node
Val (Iterated context live) = Node
Val (Conditional context live at) = node.Statement
Val (Branch context live at) = node.Block
Val LoopNames = Text × Option Text
Val Catch = Option (Text × Position)
Val DoEnd = Bool
Val (Arms context live before) = Collected
Val (Arm context live before) = Nodes × Node × Node
Val (DefaultArm context live default) = Node
Val (Cases context live before) = Nodes
Val (Case context live) = Node
Val (CaseGuard context live) = Node
Val (Action context live) = Node × Bool
Val (ArmEnd itself) = Unit {0}
Val (DefaultEnd default) = Unit {0}
Val (Comments before) = List Comment
Val (FunctionStatement context live comments first at is_private) = node.Statement × Live
Val (Function context comments at is_private) = Ended
Val FunctionHead = Option Text × Text
Val (ParameterList function) = List Text
Val (Parameters parts function before) = List Text
Val (Closure context live at bars) = Node
Val (ClosureBody context live) = node.Statement

-- Whether a reader counts: it reads one construct, and can come to the reading of an expression. What goes on with a
-- list, a run or a chain does not count: it is a part of what its caller reads.
abbrev pub is_counted : Goal → Bool
is_counted (Expression context live) = true
is_counted (Operand context live) = true
is_counted (RightOperand context live place) = true
is_counted (Primary context live) = true
is_counted (Called context live at qualified) = true
is_counted (Index context live indexed) = true
is_counted (Member context live) = true
is_counted (Postfix context live operand) = true
is_counted (Arguments context live at) = true
is_counted (Jump context live at) = true
is_counted (ExprStatement context live) = true
is_counted (Initializer context live at) = true
is_counted (Definition context live at constant exported) = true
is_counted (Import context live at) = true
is_counted (Export context live at) = true
is_counted (Statement context live) = true
is_counted (Inside context live) = true
is_counted (Block context live at) = true
is_counted (Construct context live at kind) = true
is_counted (Braced context live at) = true
is_counted (Guard context live) = true
is_counted (Iterated context live) = true
is_counted (Conditional context live at) = true
is_counted (Branch context live at) = true
is_counted (Arm context live before) = true
is_counted (DefaultArm context live default) = true
is_counted (Case context live) = true
is_counted (CaseGuard context live) = true
is_counted (Action context live) = true
is_counted (FunctionStatement context live comments first at is_private) = true
is_counted (Function context comments at is_private) = true
is_counted (Closure context live at bars) = true
is_counted (ClosureBody context live) = true
is_counted _ = false
