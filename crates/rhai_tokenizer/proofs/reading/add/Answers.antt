use Rattle.std.proofs.Common.{arith, subst, sym}
use Rattle.rhai_tokenizer.specs.Cutting.{front_at}
use Rattle.rhai_tokenizer.specs.Pieces.{letters}
use Rattle.rhai_tokenizer.specs.Turns.{IsPlace, before_of, place_of}
use Rattle.rhai_tokenizer.proofs.PositionLemmas.{in_place, past_place}
use Rattle.rhai_tokenizer.proofs.TurnLemmas.{turn_boundary}
use Rattle.rhai_tokenizer.proofs.reading.add.Goals as goal

pub overflow_add-stop : goal.overflow_add-stop
overflow_add-stop c =
    let (within, rest) = turn_boundary (before_of c.args.reading.now) c.args.rest.now c.args.piece.len
    c.requires.ready.is_due c.utf8.rest c.requires.front.len in
    omega (arith, within, c.requires.ready.room)

pub line_of-reading-requires-clause-room : goal.line_of-reading-requires-clause-room
line_of-reading-requires-clause-room c =
    let (within, rest) = turn_boundary (before_of c.args.reading.now) c.args.rest.now c.args.piece.len
    c.requires.ready.is_due c.utf8.rest c.requires.front.len in
    omega (arith, within, c.requires.ready.room)

pub join-requires-clause-place : goal.join-requires-clause-place
join-requires-clause-place c = c.requires.front.place
    (in_place c.args.reading.now.line c.args.reading.now.at c.requires.ready.placed)

pub line_of-reading-requires-clause-place : goal.line_of-reading-requires-clause-place
line_of-reading-requires-clause-place c = subst IsPlace (sym c.requires.front.after)
    (past_place (letters (front_at c.args.reading.now.in_text c.args.reading.now.operand c.args.rest.now))
    (place_of c.args.reading.now)
    (in_place c.args.reading.now.line c.args.reading.now.at c.requires.ready.placed))
