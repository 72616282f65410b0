-- What links and chains of the code represent. It is also said what is left of a chain while its tree is made.
use Rattle.std.specs.Prelude.{◌≡◌, Bool, true, false, ◌&&◌, ◌||◌, [], ◌∷◌, List, Option, None, Some}
use Rattle.std.specs.Prelude.{codes, map, refl}
use Rattle.rhai_lower.specs.Texts.{same_text}
use Rattle.rhai_lower.specs.Positions.{place}
use Rattle.rhai_lower.specs.Nodes.{Called, Node, Nodes, method_call, no_nodes, property}
use Rattle.rhai_lower.specs.View.{view}
use Rattle.rhai_lower.specs.declared.position.Position.{Position}
use Rattle.rhai_grammar.specs.Causes.{Refusal}
use Rattle.rhai_grammar.specs.Chains as chain
use Rattle.rhai_trees.specs.declared.chain.NestedLink.{NestedLink}
use Rattle.rhai_trees.specs.declared.link.Chain.{Chain}
use Rattle.rhai_trees.specs.declared.link.Link.{Link}
use Rattle.rhai_trees.specs.declared.link.LinkKind.{LinkKind}
use Rattle.rhai_trees.specs.declared.link.LinkKind.TheVariants as link_kind

abbrev pub link_kind_view : LinkKind → chain.LinkKind
link_kind_view link_kind.Index = chain.Bracket
link_kind_view link_kind.Dot = chain.Dotted

-- a link of the code as the definitions see it
abbrev pub link_view : Link → chain.Link
link_view l = record { kind = link_kind_view l.kind; negated = l.negated; at = l.pos; item = view l.item }

abbrev pub link_views : List Link → List chain.Link
link_views ls = map link_view ls

-- the tree of a chain as it is read
abbrev pub chain_view : Chain → Node
chain_view c = chain.nest (view c.root) (link_views c.links.items)

-- a link with all later ones in its item, as if that were all its own
abbrev pub nested_view : NestedLink → chain.Link
nested_view l = record { kind = link_kind_view l.kind; negated = l.negated; at = l.pos; item = view l.item }

-- a link with the next one in its item
abbrev pub with_next : chain.Link → chain.Link → (last : Bool) → chain.Link
with_next l next last =
    record { kind = l.kind; negated = l.negated; at = l.at; item = chain.link_node next last l.item next.item }

-- The tree of links, the last of which has all later ones in its item; `last` is whether there are none, so that the
-- item is just its own.
abbrev pub nest_until : (last : Bool) → Node → List chain.Link → Node
nest_until last x [] = x
nest_until last x (l ∷ ls) = chain.link_node l (chain.is_last ls && last) x (nest_until last l.item ls)

-- The operand for which the index in a bracket is tested: the one that the bracket stands directly after.
abbrev pub indexed_by : (root : Node) (before : List chain.Link) → Option Node
indexed_by x [] = Some x
indexed_by x _ = None

abbrev pub are_none : Nodes → Bool
are_none no_nodes = true
are_none _ = false

-- `eval()` and `Fn()`
abbrev pub is_no_method : Called → (arguments : Nodes) → Bool
is_no_method c args = are_none args && (same_text c.name (codes "eval") || same_text c.name (codes "Fn"))

-- the error of a method call after a dot
abbrev pub method_fault : Called → (arguments : Nodes) → Position → Option Refusal
method_fault c args p =
    chain.link_fault (record { kind = chain.Dotted; negated = false; at = p; item = method_call c args p })

-- `.b`, as in `a.b`
abbrev example_dot : chain.Link
example_dot = record { kind = chain.Dotted; negated = false; at = place 1 2; item = property (codes "b") (place 1 3) }

example : nest_until true (property (codes "a") (place 1 1)) (example_dot ∷ [])
    ≡ chain.nest (property (codes "a") (place 1 1)) (example_dot ∷ [])
example = refl
