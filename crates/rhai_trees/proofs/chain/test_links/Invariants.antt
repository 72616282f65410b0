-- An error of the links that are left is the error of all.
use Rattle.std.proofs.Common.{◌≡◌, length}
use Rattle.rhai_grammar.specs.Chains.{last_fault}
use Rattle.rhai_trees.specs.Chains.{link_views}
use Rattle.rhai_trees.proofs.chain.test_links.Given as goal

abbrev pub invariant-loop-last : goal.invariant-loop-last
invariant-loop-last l = last_fault (link_views l.rest) ≡ last_fault (link_views l.links)

abbrev pub decreases-loop-last : goal.decreases-loop-last
decreases-loop-last l = length l.rest
