-- The properties of an object map are what is left of it.
use Rattle.std.proofs.Common.{◌∙◌, ap}
use Rattle.std.proofs.lemmas.Result.{on_ok_weaker}
use Rattle.rhai_lower.proofs.Views.{view_map}
use Rattle.rhai_lower.specs.View.{property_views, view}
use Rattle.rhai_json.specs.Left.{pieces}
use Rattle.rhai_json.proofs.LeftLemmas.{map_written}
use Rattle.rhai_json.proofs.printer.Printer.push_parts.Goals as goal

pub returns-in-Map-clause-same : goal.returns-in-Map-clause-same
returns-in-Map-clause-same c =
    on_ok_weaker c.push_list-in-Map.result (λ left ts.
    map_written (view c.args.expr.now) c.in-Map.field-1 (property_views c.in-Map.properties.items)
    (property_views c.deref-in-Map.result.now) (pieces c.args.self.now) (pieces c.push.new.self)
    (pieces c.push_list-in-Map.new.self) ts (ap view c.in-Map.is ∙ view_map c.in-Map.properties c.in-Map.field-1)
    (ap property_views c.deref-in-Map.ensures.value) c.in_ok-push.ensures.left left) c.push_list-in-Map.ensures.left
