use Rattle.std.proofs.Common.{sym, ◌∙◌}
use Rattle.rhai_tokenizer.proofs.ReadLemmas.{read_ready}
use Rattle.rhai_tokenizer.proofs.StepLemmas.{no_limits}
use Rattle.rhai_tokenizer.proofs.turn.turn.Goals as goal

pub after_piece-requires : goal.after_piece-requires
after_piece-requires c = read_ready no_limits c.args.reading.now c.past_usuals.new.reading c.args.rest.now
    c.in_ok-next.next.now c.requires (c.in_ok-next.ensures.read no_limits)
    (sym c.is_due.ensures ∙ c.if-not-is_due.false)

pub returns-then-not-is_due-clause-read : goal.returns-then-not-is_due-clause-read
returns-then-not-is_due-clause-read c = c.in_ok-next.ensures.read c.args.limits
