use Rattle.std.proofs.Common.{length, ◌-◌, take, sym, ap, ◌∙◌, arith, get_or, ◌≡◌}
use Rattle.rhai_tokenizer.proofs.LeafLemmas.{line_cut, line_empty, line_whole}
use Rattle.rhai_tokenizer.proofs.meaning.line_of.Goals.{else-len-gt0-via-then-len-gt0+else-bytes-len-eq13, else-len-gt0-via-else-len-gt0}
use Rattle.rhai_tokenizer.proofs.meaning.line_of.Goals as goal

pub returns-then-bytes-len-eq13 : goal.returns-then-bytes-len-eq13
returns-then-bytes-len-eq13 c =
    let b = c.as_bytes-bytes.ensures.value in
    let e : get_or c.args.text.now (length c.args.text.now - 1) 0 ≡ 13 = ap (λ t. get_or t (length t - 1) 0) (sym b)
    ∙ c.if-bytes-len-eq13.true in
    c.split_at.ensures.front ∙ (ap (λ t. take (length t - 1) c.args.text.now) b
    ∙ line_cut c.args.text.now (omega (arith, c.if-len-gt0.true, ap length b)) e)

pub returns-else-len-gt0 : goal.returns-else-len-gt0
returns-else-len-gt0 c = elim c.else-len-gt0.branch [
  | else-len-gt0-via-then-len-gt0+else-bytes-len-eq13 w ↦ line_whole c.args.text.now
      (λ e. w.if-bytes-len-eq13.false (ap (λ t. get_or t (length t - 1) 0) c.as_bytes-bytes.ensures.value ∙ e))
  | else-len-gt0-via-else-len-gt0 w ↦ line_empty c.args.text.now
      (omega (arith, w.if-len-gt0.false, ap length c.as_bytes-bytes.ensures.value))
]
