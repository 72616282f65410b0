-- The parts of an interpolated string as they grow by one text.
use Rattle.std.proofs.Common.{◌≡◌, ◌==◌, true, false, [], ◌∷◌, length, refl}
use Rattle.std.proofs.Math.Dec.{eqb-suc-zero}
use Rattle.rhai_lower.specs.Nodes.{Nodes, string, with_node}
use Rattle.rhai_lower.specs.Texts.{Text}
use Rattle.rhai_lower.specs.declared.position.Position.{Position}
use Rattle.rhai_lower.proofs.Views.{view_string, views_push}
use Rattle.rhai_grammar.specs.Interpolations.{added_text}

pub added_none : (ns : Nodes) (t : Text) (p : Position) → (length t == 0) ≡ true → added_text ns t p ≡ ns
added_none ns [] p e = refl
added_none ns (c ∷ t) p e = let more : (length (c ∷ t) == 0) ≡ false = eqb-suc-zero (length t) in absurd cc

pub added_one : (ns : Nodes) (t : Text) (p : Position) → (length t == 0) ≡ false → added_text ns t p ≡ with_node ns (string t p)
added_one ns [] p e = absurd cc
added_one ns (c ∷ t) p e = refl

pub ruleset added = (added_none, added_one, view_string, views_push)
