use Rattle.std.proofs.Common.{◌≡◌, ◌++◌, ◌∷◌, [], cond, take, string_bytes}
use Rattle.rhai_tokenizer.specs.Numbers.{digits_of}
use Rattle.rhai_tokenizer.proofs.number.digits_text.Given as goal

abbrev pub invariant-loop-b : goal.invariant-loop-b
invariant-loop-b l = string_bytes l.text ≡ cond l.is_negative (45 ∷ []) [] ++ digits_of (take l.b-index l.figures)
