-- The signatures of functions, as they are shown.
use Rattle.std.specs.Prelude.{◌≡◌, ◌++◌, Bool, true, false, [], ◌∷◌, Option, Some, None, codes, refl}
use Rattle.std.specs.List.{join_by}
use Rattle.rhai_lower.specs.Nodes.{Block, Function}
use Rattle.rhai_lower.specs.Texts.{Text}

-- the word before a private function
abbrev pub access : Bool → Text
access true = codes "private "
access false = []

-- a method's type, with its dot
abbrev pub method_type : Option Text → Text
method_type None = []
method_type (Some t) = t ++ codes "."

-- `name(a, b)`, after the type of a method and after the word of a private function
abbrev pub signature : Function → Text
signature f =
    access f.is_private ++ method_type f.this_type ++ f.name ++ codes "("
    ++ join_by (λ p. p) (codes ", ") f.parameters ++ codes ")"

example : (body : Block)
    → signature (record {
      this_type = Some (codes "int");
      name = codes "add";
      is_private = true;
      parameters = codes "x" ∷ codes "y" ∷ [];
      comments = [];
      body = body;
    }) ≡ codes "private int.add(x, y)"
example body = refl
