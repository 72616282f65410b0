-- What is written is what is left from the index on, behind what was written.
use Rattle.std.proofs.Common.{◌≡◌, drop, map}
use Rattle.std.specs.Rc.{rc_str_bytes}
use Rattle.json.specs.Token.{string}
use Rattle.rhai_json.specs.Fields.{items, put}
use Rattle.rhai_json.proofs.fields.put_texts.Given as goal

abbrev pub invariant-loop-text : goal.invariant-loop-text
invariant-loop-text l =
    items (λ t. put (string t)) (map rc_str_bytes (drop l.text-index l.texts)) l.out
    ≡ items (λ t. put (string t)) (map rc_str_bytes l.texts) l.initial.out
