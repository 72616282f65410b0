-- The nodes of tokens that are values, and the keys of an object map.
use Rattle.std.proofs.Common.{◌≡◌, ◌||◌, List, [], ◌∷◌, map, ap, refl}
use Rattle.std.specs.List.{list_any}
use Rattle.std.specs.Rc.{rc_str_bytes}
use Rattle.rhai_lower.specs.Texts.{Text, same_text}
use Rattle.rhai_lower.specs.View.{property_views}
use Rattle.rhai_lower.specs.declared.expr.Expr.{Expr}
use Rattle.rhai_lower.specs.declared.expr.Ident.{Ident}
use Rattle.rhai_lower.proofs.Views.{view_unit, view_boolean, view_integer, view_character, view_string}
use Rattle.rhai_grammar.specs.Literals.{has_key}

pub ruleset values = (view_unit, view_boolean, view_integer, view_character, view_string)

-- an object map has the keys of its properties
pub among_keys : (key : Text) (ps : List (Ident × Expr)) → list_any (λ n. same_text n key) (map (λ p. rc_str_bytes p.0.name) ps) ≡ has_key key (property_views ps)
among_keys key [] = refl
among_keys key (p ∷ ps) = ap (λ b. same_text (rc_str_bytes p.0.name) key || b) (among_keys key ps)
