-- The result depends on the items from the index on.
use Rattle.std.proofs.Common.{◌≡◌, drop}
use Rattle.rhai_lower.specs.View.{property_views, views}
use Rattle.rhai_grammar.specs.Kinds.{are_constant, have_constants}
use Rattle.rhai_trees.proofs.kind.+constants.Given as goal

abbrev pub invariant-are_constant-loop-item : goal.invariant-are_constant-loop-item
invariant-are_constant-loop-item l = are_constant (views (drop l.item-index l.items)) ≡ are_constant (views l.items)

abbrev pub invariant-have_constants-loop-property : goal.invariant-have_constants-loop-property
invariant-have_constants-loop-property l = have_constants (property_views (drop l.property-index l.properties)) ≡ have_constants (property_views l.properties)
