-- What is written is what is left from the index on, behind what was written.
use Rattle.std.proofs.Common.{◌≡◌, drop}
use Rattle.std.specs.Fmt.{decimal}
use Rattle.json.specs.Token.{number}
use Rattle.rhai_json.specs.Fields.{items, put}
use Rattle.rhai_json.proofs.fields.put_numbers.Given as goal

abbrev pub invariant-loop-number : goal.invariant-loop-number
invariant-loop-number l =
    items (λ n. put (number (decimal n))) (drop l.number-index l.numbers) l.out
    ≡ items (λ n. put (number (decimal n))) l.numbers l.initial.out
