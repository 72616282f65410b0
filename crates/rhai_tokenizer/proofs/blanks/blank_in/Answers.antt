use Rattle.std.proofs.Common.{◌<◌, ◌∙◌, sym, get_or, arith}
use Rattle.rhai_tokenizer.proofs.BlankLemmas.{blank_empty, blank_other, blank_space}
use Rattle.rhai_tokenizer.proofs.ClassLemmas.{other_byte, space_byte}
use Rattle.rhai_tokenizer.proofs.blanks.blank_in.Goals as goal

pub returns-in-empty-clause-value : goal.returns-in-empty-clause-value
returns-in-empty-clause-value c = blank_empty c.args.z.now c.in-empty.len_below

pub returns-then-is_space-clause-value : goal.returns-then-is_space-clause-value
returns-then-is_space-clause-value c =
    let h : get_or c.args.z.now 0 0 < 256 = omega (arith, c.type_inv.z 0) in
    blank_space c.args.z.now c.in-len1-up.len_at_least
    (space_byte (get_or c.args.z.now 0 0) h (sym c.is_space.ensures ∙ c.if-is_space.true))

pub returns-else-b-ge128-clause-value : goal.returns-else-b-ge128-clause-value
returns-else-b-ge128-clause-value c =
    let h : get_or c.args.z.now 0 0 < 128 = omega (arith, c.if-b-ge128.false) in
    blank_other c.args.z.now
    (other_byte (get_or c.args.z.now 0 0) h (sym c.is_space.ensures ∙ c.if-is_space.false))
