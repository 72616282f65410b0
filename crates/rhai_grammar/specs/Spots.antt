-- The context of a run or of a link: settings, and what is around.
use Rattle.std.specs.Prelude.{Option, Some, None, List, [], ◌∷◌, ◌++◌}
use Rattle.rhai_lower.specs.Nodes.{Node}
use Rattle.rhai_grammar.specs.Contexts.{Context, level_up}
use Rattle.rhai_grammar.specs.Chains.{Link}

-- The place of a link: the settings of the operand that it continues, those of the brackets directly before it, the
-- operand against which the index of a bracket is tested, if it is, and the links before.
pub record LinkSpot : Type 0 where
  pub settings : Context
  pub brackets : Context
  pub indexed : Option Node
  pub before : List Link

abbrev pub spot_after_operand : Context → Node → LinkSpot
spot_after_operand context x = record { settings = context; brackets = context; indexed = Some x; before = [] }

abbrev pub spot_after_bracket : LinkSpot → Link → LinkSpot
spot_after_bracket spot link = record {
  settings = spot.settings;
  brackets = level_up spot.brackets;
  indexed = None;
  before = spot.before ++ (link ∷ []);
}

-- Everything to the right of a dot is one level deeper.
abbrev pub spot_after_dot : LinkSpot → Link → LinkSpot
spot_after_dot spot link = record {
  settings = level_up spot.settings;
  brackets = level_up spot.settings;
  indexed = None;
  before = spot.before ++ (link ∷ []);
}
