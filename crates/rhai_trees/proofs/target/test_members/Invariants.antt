-- The error of the links that are left is the error of all.
use Rattle.std.proofs.Common.{◌≡◌, length}
use Rattle.rhai_lower.specs.View.{view}
use Rattle.rhai_grammar.specs.Chains.{chain_of}
use Rattle.rhai_grammar.specs.Targets.{links_fault}
use Rattle.rhai_trees.proofs.target.test_members.Given as goal

abbrev pub invariant-loop-kind : goal.invariant-loop-kind
invariant-loop-kind l = links_fault (chain_of (view l.rest)).links ≡ links_fault (chain_of (view l.chain)).links

abbrev pub decreases-loop-kind : goal.decreases-loop-kind
decreases-loop-kind l = length (chain_of (view l.rest)).links
