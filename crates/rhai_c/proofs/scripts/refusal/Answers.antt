-- What is told is printed of the report on the error.
use Rattle.std.proofs.Common.{◌∙◌, ℕ, ap, refl}
use Rattle.std.specs.Prelude.{Vec}
use Rattle.std.specs.declared.alloc.Global.{Global}
use Rattle.rhai_c.proofs.Replies.{tells_refusal}
use Rattle.rhai_c.proofs.scripts.refusal.Goals as goal

pub returns : goal.returns
returns c =
    tells_refusal c.args.settings.now.limits c.args.text.now c.into_bytes.result.items c.args.error
    c.in_ok-tokens.tokens _ _ c.index_at-index.result c.in_ok-report.report c.in_ok-tokens.ensures (refl, refl, refl)
    (refl, refl) c.index_at-index.ensures c.in_ok-report.ensures
    (ap (λ (v : Vec ℕ Global). v.items) c.into_bytes.ensures.value ∙ c.in_ok-diagnostic_json.ensures)
