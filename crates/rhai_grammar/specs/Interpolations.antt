-- Which tokens are texts of interpolated strings, and the segments that they give.
use Rattle.std.specs.Prelude.{◌≡◌, Bool, true, false, [], codes, refl}
use Rattle.rhai_lower.specs.Texts.{Text}
use Rattle.rhai_lower.specs.Lexemes.{Lexeme, Interpolated, Name, String}
use Rattle.rhai_lower.specs.Nodes.{Nodes, no_nodes, one_node, string, with_node}
use Rattle.rhai_lower.specs.Positions.{place}
use Rattle.rhai_lower.specs.declared.position.Position.{Position}

-- a text after a block: the last one is a plain string, and every other one is interpolated
abbrev pub is_text : Lexeme → Bool
is_text (String t) = true
is_text (Interpolated t) = true
is_text _ = false

abbrev pub is_last_text : Lexeme → Bool
is_last_text (String t) = true
is_last_text _ = false

-- segments with one more text; an empty one leaves no segment
abbrev pub added_text : Nodes → Text → Position → Nodes
added_text before [] at = before
added_text before t at = with_node before (string t at)

-- A name is no text; a text leaves a segment, and an empty one none.
example : (is_text (Name (codes "c")) ≡ false) × (added_text no_nodes [] (place 1 1) ≡ no_nodes)
    × (added_text no_nodes (codes "c") (place 1 1) ≡ one_node (string (codes "c") (place 1 1)) no_nodes)
example = (refl, refl, refl)
