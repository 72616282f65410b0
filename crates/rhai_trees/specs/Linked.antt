-- Which trees are chains: what a link's item and a chain's root may be.
use Rattle.std.specs.Prelude.{◌≡◌, Bool, true, false, codes, refl}
use Rattle.rhai_lower.specs.Positions.{place}
use Rattle.rhai_lower.specs.Nodes.{Node, dot, index, property}
use Rattle.rhai_lower.specs.declared.node.LinkFlags.{LinkFlags}

-- a dot or a bracket, with what is before it and behind it
unfoldable pub is_linked : Node → Bool
is_linked (dot x y m p) = true
is_linked (index x y m p) = true
is_linked _ = false

abbrev example_name : Node
example_name = property (codes "a") (place 1 1)

abbrev example_flags : LinkFlags
example_flags = record { negated = false; terminating = false }

-- `a`, and `a.a`
example : (is_linked example_name ≡ false)
    × (is_linked (dot example_name example_name example_flags (place 1 2)) ≡ true)
unfolding is_linked
example = (refl, refl)
