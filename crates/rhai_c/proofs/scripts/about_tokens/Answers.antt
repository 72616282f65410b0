-- What is told is printed of the tokens of the text.
use Rattle.std.proofs.Common.{◌∙◌, ℕ, ap}
use Rattle.std.specs.Prelude.{Vec}
use Rattle.std.specs.declared.alloc.Global.{Global}
use Rattle.rhai_c.proofs.Replies.{tells_tokens}
use Rattle.rhai_c.proofs.scripts.about_tokens.Goals as goal

pub returns : goal.returns
returns c = (
  c.requires,
  tells_tokens c.args.settings.now.limits c.args.text.now c.into_bytes.result.items c.in_ok-tokens.tokens
      c.in_ok-tokens.ensures
      (ap (λ (v : Vec ℕ Global). v.items) c.into_bytes.ensures.value ∙ c.in_ok-tokens_json.ensures),
)
