use Rattle.std.proofs.Common.{◌||◌, ◌∙◌, ap}
use Rattle.rhai_lower.specs.Texts.{Text, same_text}
use Rattle.rhai_base.specs.Index.{listed}
use Rattle.rhai_base.proofs.IndexLemmas.{inserted}
use Rattle.rhai_base.proofs.library_index.add_name.Goals as goal

pub returns : goal.returns
returns c = λ (name : Text).
    ap (listed name) c.in_ok-insert.ensures.keys
    ∙ inserted name c.args.names.now.keys c.in_ok-clone.field-0
    ∙ ap (λ t. listed name c.args.names.now.keys || same_text t name) c.in_ok-clone.ensures.cases
