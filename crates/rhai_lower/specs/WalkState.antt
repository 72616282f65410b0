-- What the state of a walk represents: the nodes that it has yet to give.
use Rattle.std.specs.Prelude.{◌≡◌, ℕ, Bool, true, false, ◌⊎◌, Option, Some, None}
use Rattle.std.specs.Prelude.{Result, Ok, Err, List, [], ◌∷◌, ◌++◌, map, reverse}
use Rattle.std.specs.List.{flat_map}
use Rattle.std.specs.declared.alloc.AllocError.{AllocError}
use Rattle.rhai_lower.specs.View.{arm_views, block_view, case_views, function_view, property_views, statement_view}
use Rattle.rhai_lower.specs.View.{statement_views, view, views}
use Rattle.rhai_lower.specs.Walks.{Left, Visit, Visited, all_left, arms_walk, block, case, cases_walk, declared, deeper}
use Rattle.rhai_lower.specs.Walks.{function, functions_walk, inside, node, nodes_walk, range, ranges_walk, statement}
use Rattle.rhai_lower.specs.Walks.{statements_walk, values_walk, walk_of}
use Rattle.rhai_lower.specs.declared.ast.AST.{AST}
use Rattle.rhai_lower.specs.declared.expr.BinaryExpr.{out-BinaryExpr}
use Rattle.rhai_lower.specs.declared.stmt.FlowControl.{out-FlowControl}
use Rattle.rhai_lower.specs.declared.stmt.SwitchCase.{out-SwitchCase}
use Rattle.rhai_lower.specs.declared.stmt.SwitchCasesCollection.{SwitchCasesCollection, out-SwitchCasesCollection}
use Rattle.rhai_lower.specs.declared.walk.Due.{Due}
use Rattle.rhai_lower.specs.declared.walk.Node.{Node}
use Rattle.rhai_lower.specs.declared.walk.Node.TheVariants as given
use Rattle.rhai_lower.specs.declared.walk.Part.{Part}
use Rattle.rhai_lower.specs.declared.walk.Part.TheVariants as part
use Rattle.rhai_lower.specs.declared.walk.Walk.{Walk}

-- what a node of the code represents
abbrev pub visited : Node → Visited
visited (given.Expr x) = node (view x.now)
visited (given.Declared x) = declared (view x.now)
visited (given.Stmt f) = statement (statement_view f.now)
visited (given.Block b) = block (block_view b.now)
visited (given.Case c) = case (view (out-SwitchCase c.now).value) (out-SwitchCase c.now).indices.items
visited (given.Range r) = range r.now
visited (given.Function f) = function (function_view f.now)

-- What `next` returns: nothing where nothing is left, otherwise the first node that is left, whose parts are then known
-- from those of later nodes. Where memory runs out, all is still left.
abbrev pub Gives : Left → Result (Option (ℕ × Node)) AllocError → Left → Type 0
Gives before (Ok None) now = (all_left before ≡ []) × (all_left now ≡ [])
Gives before (Ok (Some given)) now =
    (all_left before ≡ (given.0, visited given.1) ∷ all_left now)
    × (now.parts ≡ inside (deeper given.0) (visited given.1))
Gives before (Err e) now = now ≡ before

-- the values and the ranges that lead to the arms of a `switch`
abbrev pub ways_walk : ℕ → SwitchCasesCollection → List Visit
ways_walk d cs =
    cases_walk d (case_views (out-SwitchCasesCollection cs).cases.items)
    ++ ranges_walk d (out-SwitchCasesCollection cs).ranges.items

-- one node or more, which stand one after the other
abbrev pub part_walk : ℕ → Part → List Visit
part_walk d (part.One n) = walk_of d (visited n)
part_walk d (part.Pair b) =
    walk_of d (node (view (out-BinaryExpr b.now).lhs)) ++ walk_of d (node (view (out-BinaryExpr b.now).rhs))
part_walk d (part.Guarded x b) = walk_of d (node (view x.now)) ++ walk_of d (block (block_view b.now))
part_walk d (part.Blocks b c) = walk_of d (block (block_view b.now)) ++ walk_of d (block (block_view c.now))
part_walk d (part.If f) =
    walk_of d (node (view (out-FlowControl f.now).expr))
    ++ (walk_of d (block (block_view (out-FlowControl f.now).body))
    ++ walk_of d (block (block_view (out-FlowControl f.now).branch)))
part_walk d (part.Try f) =
    walk_of d (block (block_view (out-FlowControl f.now).body))
    ++ (walk_of d (declared (view (out-FlowControl f.now).expr))
    ++ walk_of d (block (block_view (out-FlowControl f.now).branch)))
part_walk d (part.Catch f) =
    walk_of d (declared (view (out-FlowControl f.now).expr))
    ++ walk_of d (block (block_view (out-FlowControl f.now).branch))
part_walk d (part.Exprs x xs) = walk_of d (node (view x.now)) ++ nodes_walk d (views xs.now)
part_walk d (part.Values p ps) = walk_of d (node (view p.now.1)) ++ values_walk d (property_views ps.now)
part_walk d (part.Stmts f fs) =
    walk_of d (statement (statement_view f.now)) ++ statements_walk d (statement_views fs.now)
part_walk d (part.Functions f fs) =
    walk_of d (function (function_view f.now.value)) ++ functions_walk d (map (λ f. function_view f.value) fs.now)
part_walk d (part.Switch x cs) =
    walk_of d (node (view x.now))
    ++ (arms_walk d (arm_views (out-SwitchCasesCollection cs.now).expressions.items) ++ ways_walk d cs.now)
part_walk d (part.Arms b bs cs) =
    walk_of d (node (view (out-BinaryExpr b.now).lhs))
    ++ (walk_of d (node (view (out-BinaryExpr b.now).rhs)) ++ (arms_walk d (arm_views bs.now) ++ ways_walk d cs.now))
part_walk d (part.Action b bs cs) =
    walk_of d (node (view (out-BinaryExpr b.now).rhs)) ++ (arms_walk d (arm_views bs.now) ++ ways_walk d cs.now)
part_walk d (part.Cases c cs rs) =
    walk_of d (visited (given.Case c)) ++ (cases_walk d (case_views cs.now) ++ ranges_walk d rs.now)
part_walk d (part.Ranges r rs) = (d, range r.now) ∷ ranges_walk d rs.now

abbrev pub optional_part_walk : ℕ → Option Part → List Visit
optional_part_walk d None = []
optional_part_walk d (Some p) = part_walk d p

-- What a list of parts has still to give: the last one comes first.
unfoldable pub pending_walk : List Due → List Visit
pending_walk dues = flat_map (λ d. part_walk d.depth d.part) (reverse dues)

-- The first node that is left is taken, if one is; what comes after all that stands in it stays.
abbrev pub Splits : List Due → Option (ℕ × Node) → List Due → Type 0
Splits before None now = (pending_walk before ≡ []) × (pending_walk now ≡ [])
Splits before (Some given) now = pending_walk before ≡ walk_of given.0 (visited given.1) ++ pending_walk now

-- the parts of the node that was given last
abbrev pub given_walk : Option (ℕ × Node) → List Visit
given_walk None = []
given_walk (Some given) = inside (deeper given.0) (visited given.1)

-- what a walk of the code has still to give
abbrev pub left : Walk → Left
left w = record { parts = given_walk w.given; after = pending_walk w.pending.items }

-- the walk over a script: its statements, and then its functions
abbrev pub script_walk : AST → List Visit
script_walk script =
    statements_walk 0 (statement_views script.statements.items)
    ++ functions_walk 0 (map (λ f. function_view f.value) script.functions.items)

-- The calls of a closure at the nodes of a walk, each with its depth, in this order, until one answers no. `step` says
-- what a call may answer, and in which state it leaves the closure; `all` says whether all answers are yes.
abbrev pub Calls : {F : Type 0} → (F → ℕ → Node → Bool → F → Type 0) → F → List Visit → Bool → F → Type 0
Calls step now [] all last = (all ≡ true) × (last ≡ now)
Calls {F} step now (v ∷ vs) all last =
    (given : Node) × (visited given ≡ v.1)
    × (((next : F) × step now v.0 given true next × Calls step next vs all last)
    ⊎ (step now v.0 given false last × (all ≡ false)))
