use Rattle.rhai_tokenizer.proofs.ReadLemmas.{turn_falls, turn_read, turn_within}
use Rattle.rhai_tokenizer.proofs.turn.after_piece.Goals as goal

pub split_at-requires : goal.split_at-requires
split_at-requires c = turn_within c.args.limits c.args.reading.now c.piece.new.reading c.args.rest.now c.in_ok-len.len
    c.requires c.in_ok-len.ensures c.utf8.rest

pub returns-clause-read : goal.returns-clause-read
returns-clause-read c = turn_read c.args.limits c.args.reading.now c.piece.new.reading c.args.rest.now _ c.in_ok-len.len
    c.requires c.in_ok-len.ensures c.split_at.ensures.back c.utf8.rest

pub returns-clause-falls : goal.returns-clause-falls
returns-clause-falls c = turn_falls c.args.limits c.args.reading.now c.piece.new.reading c.args.rest.now _
    c.in_ok-len.len c.requires c.in_ok-len.ensures c.split_at.ensures.back
