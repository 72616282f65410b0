-- The links that are left, with the one that contains all later links, nest to the same tree.
use Rattle.std.proofs.Common.{◌≡◌, ◌∷◌, ◌++◌, [], vec_len}
use Rattle.rhai_lower.specs.View.{view}
use Rattle.rhai_trees.specs.Chains.{chain_view, link_views, nest_until, nested_view}
use Rattle.rhai_trees.proofs.link.Chain.nest_links.Given as goal

abbrev pub invariant-loop-link : goal.invariant-loop-link
invariant-loop-link l = nest_until l.last (view l.root) (link_views l.links.items ++ nested_view l.next ∷ []) ≡ chain_view l.fn.self

abbrev pub decreases-loop-link : goal.decreases-loop-link
decreases-loop-link l = vec_len l.links
