-- No fault of a tree says that the key of a closure is there.
use Rattle.std.proofs.Common.{◌≡◌, ℕ, Bool, true, false, refl, List, [], ◌∷◌}
use Rattle.std.specs.Option.{option_or}
use Rattle.std.specs.Prelude.{Option, Some, None, option_map}
use Rattle.rhai_grammar.specs.Prelude.{Lexeme, Text, Node, Nodes, Position, Refusal, Context, Live, Chain, Link}
use Rattle.rhai_grammar.specs.Prelude.{LinkKind, Bracket, Dotted, Collected, with_case, chain_of, position_of, refusal}
use Rattle.rhai_lower.specs.Nodes as node
use Rattle.rhai_lower.specs.Nodes.{start_of}
use Rattle.rhai_grammar.specs.Causes as cause
use Rattle.rhai_grammar.specs.Chains as N
use Rattle.rhai_grammar.specs.Constructs as C
use Rattle.rhai_grammar.specs.Kinds.{index_fault, is_constant, not_boolean, not_iterable}
use Rattle.rhai_grammar.specs.Modules as M
use Rattle.rhai_grammar.specs.Switches as A
use Rattle.rhai_grammar.specs.Targets as G
use Rattle.rhai_grammar.proofs.Duplicates.{either, has_duplicate}

first_fault : (r s : Option Refusal) → has_duplicate r ≡ false → has_duplicate s ≡ false
    → has_duplicate (option_or r s) ≡ false
first_fault None s g h = h
first_fault (Some e) s g h = g

type_fault : (t : Text) (x : Node) (found : Option Text) → has_duplicate (C.type_fault t x found) ≡ false
type_fault t x None = refl
type_fault t x (Some found) = refl

pub guard_fault : (x : Node) → has_duplicate (C.guard_fault x) ≡ false
guard_fault x = type_fault _ x (not_boolean x)

pub iterated_fault : (x : Node) → has_duplicate (C.iterated_fault x) ≡ false
iterated_fault x = type_fault _ x (not_iterable x)

pub index_refusal : (indexed : Option Node) (x : Node) → has_duplicate (N.index_refusal indexed x) ≡ false
index_refusal None x = refl
index_refusal (Some root) x = by (index_fault root x)
  where
    by : (why : Option Text)
        → has_duplicate (option_map (λ t. refusal (cause.MalformedIndexExpr t) (start_of x)) why) ≡ false
    by None = refl
    by (Some t) = refl

link_fault : (kind : LinkKind) (negated : Bool) (at : Position) (item : Node)
    → has_duplicate (N.link_fault (record { kind = kind; negated = negated; at = at; item = item })) ≡ false
link_fault Bracket negated at item = refl
link_fault Dotted negated at (node.method_call c arguments p) = search (either has_duplicate)
link_fault Dotted negated at _ = refl

pub last_fault : (ls : List Link) → has_duplicate (N.last_fault ls) ≡ false
last_fault [] = refl
last_fault (l ∷ ls) =
    first_fault (N.last_fault ls) (N.link_fault l) (last_fault ls) (link_fault l.kind l.negated l.at l.item)

item_fault : (kind : LinkKind) (item : Node) → has_duplicate (G.item_fault kind item) ≡ false
item_fault Dotted (node.method_call c arguments at) = refl
item_fault _ _ = refl

links_fault : (ls : List Link) → has_duplicate (G.links_fault ls) ≡ false
links_fault [] = refl
links_fault (l ∷ ls) =
    first_fault (G.item_fault l.kind l.item) (G.links_fault ls) (item_fault l.kind l.item) (links_fault ls)

root_fault : (x : Node) → has_duplicate (G.root_fault x) ≡ false
root_fault (node.this p) = refl
root_fault (node.variable v p) = refl
root_fault _ = refl

chain_fault : (c : Chain) → has_duplicate (G.chain_fault c) ≡ false
chain_fault c = first_fault (G.links_fault c.links) (G.root_fault c.root) (links_fault c.links) (root_fault c.root)

value_fault : (constant : Bool) (at : Position) → has_duplicate (G.value_fault constant at) ≡ false
value_fault true at = refl
value_fault false at = refl

pub target_fault : (constant : Bool) (op : Lexeme) (at : Position) (x : Node)
    → has_duplicate (G.target_fault constant op at x) ≡ false
target_fault constant op at (node.this p) = refl
target_fault constant op at (node.variable v p) = search (either has_duplicate)
target_fault constant op at (node.dot x y m p) = chain_fault (chain_of (node.dot x y m p))
target_fault constant op at (node.index x y m p) = chain_fault (chain_of (node.index x y m p))
target_fault constant op at (node.conjunction ns p) = search (either has_duplicate)
target_fault constant op at (node.disjunction ns p) = search (either has_duplicate)
target_fault constant op at (node.coalescing ns p) = search (either has_duplicate)
target_fault constant op at x = value_fault (is_constant x) (position_of x)

case_fault : (before : Collected) (x : Node) → has_duplicate (A.case_fault before x) ≡ false
case_fault before x = search (either has_duplicate)

fault_from : (index : ℕ) (before : Collected) (xs : Nodes) → has_duplicate (A.fault_from index before xs) ≡ false
fault_from index before node.no_nodes = refl
fault_from index before (node.one_node x xs) =
    first_fault (A.case_fault before x) (A.fault_from index (with_case index before x) xs) (case_fault before x)
    (fault_from index (with_case index before x) xs)

pub arm_fault : (before : Collected) (xs : Nodes) → has_duplicate (A.arm_fault before xs) ≡ false
arm_fault before xs = fault_from _ before xs

path_fault : (c : Context) (w : Live) (path : List (Text × Position)) → has_duplicate (M.path_fault c w path) ≡ false
path_fault c w [] = refl
path_fault c w (root ∷ path) = search (either has_duplicate)

pub module_fault : (c : Context) (w : Live) (x : Node) → has_duplicate (M.module_fault c w x) ≡ false
module_fault c w (node.variable v p) = path_fault c w v.path
module_fault c w _ = refl
