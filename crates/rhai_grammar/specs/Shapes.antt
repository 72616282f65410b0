-- Trees without positions: each node gets the position `nowhere`.
use Rattle.std.specs.Prelude.{ℕ, Option, List, [], ◌∷◌}
use Rattle.rhai_lower.specs.Texts.{Text}
use Rattle.rhai_lower.specs.Positions.{nowhere}
use Rattle.rhai_lower.specs.Nodes as node
use Rattle.rhai_lower.specs.Nodes.{Arms, Block, Called, Cases, Named, Node, Nodes, Optional, Properties, Statement}
use Rattle.rhai_lower.specs.Nodes.{Statements}
use Rattle.rhai_lower.specs.declared.position.Position.{Position}

-- ---- trees

abbrev pub path_shape : List (Text × Position) → List (Text × Position)
path_shape [] = []
path_shape (part ∷ parts) = (part.0, nowhere) ∷ path_shape parts

abbrev pub shared_shape : List (Text × Position × Option ℕ) → List (Text × Position × Option ℕ)
shared_shape [] = []
shared_shape (name ∷ names) = (name.0, nowhere, name.2) ∷ shared_shape names

abbrev pub called_shape : Called → Called
called_shape c = record c { path = path_shape c.path }

abbrev pub named_shape : Named → Named
named_shape v = record v { path = path_shape v.path }

abbrev mutual
  pub node_shape : Node → Node
  node_shape (node.unit p) = node.unit nowhere
  node_shape (node.boolean b p) = node.boolean b nowhere
  node_shape (node.integer n p) = node.integer n nowhere
  node_shape (node.character c p) = node.character c nowhere
  node_shape (node.string t p) = node.string t nowhere
  node_shape (node.interpolated ns p) = node.interpolated (nodes_shape ns) nowhere
  node_shape (node.array ns p) = node.array (nodes_shape ns) nowhere
  node_shape (node.object_map ps p) = node.object_map (properties_shape ps) nowhere
  node_shape (node.pointer name parameters p) = node.pointer name parameters nowhere
  node_shape (node.variable v p) = node.variable (named_shape v) nowhere
  node_shape (node.this p) = node.this nowhere
  node_shape (node.property t p) = node.property t nowhere
  node_shape (node.call c ns p) = node.call (called_shape c) (nodes_shape ns) nowhere
  node_shape (node.method_call c ns p) = node.method_call (called_shape c) (nodes_shape ns) nowhere
  node_shape (node.dot l r m p) = node.dot (node_shape l) (node_shape r) m nowhere
  node_shape (node.index l r m p) = node.index (node_shape l) (node_shape r) m nowhere
  node_shape (node.conjunction ns p) = node.conjunction (nodes_shape ns) nowhere
  node_shape (node.disjunction ns p) = node.disjunction (nodes_shape ns) nowhere
  node_shape (node.coalescing ns p) = node.coalescing (nodes_shape ns) nowhere
  node_shape (node.block_value b) = node.block_value (block_shape b)

  pub nodes_shape : Nodes → Nodes
  nodes_shape node.no_nodes = node.no_nodes
  nodes_shape (node.one_node n ns) = node.one_node (node_shape n) (nodes_shape ns)

  pub optional_shape : Optional → Optional
  optional_shape node.absent = node.absent
  optional_shape (node.present n) = node.present (node_shape n)

  pub properties_shape : Properties → Properties
  properties_shape node.no_properties = node.no_properties
  properties_shape (node.one_property t p n ps) = node.one_property t nowhere (node_shape n) (properties_shape ps)

  pub statement_shape : Statement → Statement
  statement_shape (node.noop p) = node.noop nowhere
  statement_shape (node.if_statement g b e p) = node.if_statement (node_shape g) (block_shape b) (block_shape e) nowhere
  statement_shape (node.switch_statement i arms cases ranges d p) =
      node.switch_statement (node_shape i) (arms_shape arms) (cases_shape cases) ranges d nowhere
  statement_shape (node.while_statement g b p) = node.while_statement (node_shape g) (block_shape b) nowhere
  statement_shape (node.do_statement g b m p) = node.do_statement (node_shape g) (block_shape b) m nowhere
  statement_shape (node.for_statement t c n b p) = node.for_statement t c (node_shape n) (block_shape b) nowhere
  statement_shape (node.var_statement t n i c e p) = node.var_statement t (node_shape n) i c e nowhere
  statement_shape (node.assignment op t v p) = node.assignment op (node_shape t) (node_shape v) nowhere
  statement_shape (node.expression n) = node.expression (node_shape n)
  statement_shape (node.block_statement b) = node.block_statement (block_shape b)
  statement_shape (node.try_catch b n e p) = node.try_catch (block_shape b) (node_shape n) (block_shape e) nowhere
  statement_shape (node.break_loop v m p) = node.break_loop (optional_shape v) m nowhere
  statement_shape (node.return_statement v m p) = node.return_statement (optional_shape v) m nowhere
  statement_shape (node.import_statement n t p) = node.import_statement (node_shape n) t nowhere
  statement_shape (node.export_statement t a p) = node.export_statement t a nowhere
  statement_shape (node.share names p) = node.share (shared_shape names) nowhere

  pub statements_shape : Statements → Statements
  statements_shape node.no_statements = node.no_statements
  statements_shape (node.one_statement s ss) = node.one_statement (statement_shape s) (statements_shape ss)

  pub block_shape : Block → Block
  block_shape (node.braces ss start end) = node.braces (statements_shape ss) nowhere nowhere

  pub arms_shape : Arms → Arms
  arms_shape node.no_arms = node.no_arms
  arms_shape (node.one_arm g a arms) = node.one_arm (node_shape g) (node_shape a) (arms_shape arms)

  pub cases_shape : Cases → Cases
  cases_shape node.no_cases = node.no_cases
  cases_shape (node.one_case v arms cases) = node.one_case (node_shape v) arms (cases_shape cases)
