use Rattle.std.proofs.Common.{◌<◌, ◌∙◌, ap, arith, get_or}
use Rattle.rhai_tokenizer.specs.declared.lead.Lead.TheVariants as lead
use Rattle.rhai_tokenizer.proofs.LeadLemmas.{lead_at}
use Rattle.rhai_tokenizer.proofs.lead.lead_of.Goals as goal

pub returns : goal.returns
returns c = let h : c.args.byte < 256 = omega arith in
    ap (λ xs. get_or xs c.args.byte lead.Word) c.leads.ensures.value ∙ lead_at c.args.byte lead.Word h
