-- Where one of both lists is at its end, nothing is left to be written.
use Rattle.std.proofs.Common.{◌∙◌, inl, inr, sym}
use Rattle.rhai_json.specs.TokenLists.{entry_value}
use Rattle.rhai_json.proofs.TokenLemmas.{all_written}
use Rattle.rhai_json.proofs.tokens.put_entries.Goals as goal

pub returns : goal.returns
returns c =
    let rest = c.loop-entry.entry-iterator in
    sym (all_written (entry_value c.args.from) rest.a.rest.now rest.b.rest.now c.loop-entry.out
    (elim c.in-None.ensures.steps [ inl w ↦ inl w.1.0 | inr w ↦ inr w.1.0 ]))
    ∙ c.loop-entry.invariant
