-- One more part is added, after a tab if it is not the first; at the end there were all.
use Rattle.std.proofs.Common.{◌≡◌, ◌∙◌, ◌==◌, ◌+◌, ◌++◌, ◌<◌, ℕ, ap, arith, get_or, length, lit<, string_bytes, sym}
use Rattle.std.proofs.Common.{take}
use Rattle.std.proofs.Math.Seq.{take-length}
use Rattle.std.proofs.lemmas.Iterator.Consumers.{YieldsList-end, YieldsList-from_enumerate, YieldsList-turn}
use Rattle.std.proofs.lemmas.Iterator.Splits.{YieldsList-from_str_split}
use Rattle.std.proofs.lemmas.List.{length_push}
use Rattle.std.proofs.lemmas.List.FromFn.{get_or-enumerate_from, length-enumerate_from}
use Rattle.std.proofs.lemmas.Str.{encode_ascii}
use Rattle.std.specs.List.{slice_split}
use Rattle.std.specs.Prelude.{codes}
use Rattle.rhai_lower.specs.Texts.{Text}
use Rattle.rhai_report.specs.Printed.{columns, filled, parts_wide, written}
use Rattle.rhai_report.proofs.PrintLemmas.{first_part, other_part}
use Rattle.rhai_report.proofs.visible.push_as_wide.Goals as goal
use Rattle.rhai_report.proofs.visible.push_as_wide.Goals.{else-index-gt0, then-index-gt0+in_ok-push}

pub loop-index-preserved : goal.loop-index-preserved
loop-index-preserved c =
    let text = c.args.text.now in
    let parts = slice_split (λ b. b == 9) text in
    let from = string_bytes c.args.out.now in
    let seen = c.loop-index.yielded in
    let n = length seen in
    let turn = YieldsList-turn
    (YieldsList-from_enumerate (YieldsList-from_str_split 9 text (lit< tt) (cc) (cc) (cc)) (cc)) seen _
    c.loop-index.yielded_by _ _ (c.in-Some.index, c.in-Some.part) c.in-Some.is c.next.ensures.steps in
    let less : n < length parts = omega (arith, turn.0, length-enumerate_from 0 parts) in
    let here = turn.1 ∙ get_or-enumerate_from 0 parts n (c.in-Some.index, c.in-Some.part.now) less in
    let part = c.in-Some.part.now in
    let is : part ≡ get_or parts n part = ap (λ (p : ℕ × Text). p.1) here in
    let index : c.in-Some.index ≡ n = ap (λ (p : ℕ × Text). p.0) here ∙ omega arith in
    let before = c.if-index-gt0.out in
    let wide : string_bytes c.push_fill.new.out ≡ filled c.args.fill (columns part) (string_bytes before) =
    c.in_ok-push_fill.ensures ∙ ap (λ k. filled c.args.fill k (string_bytes before)) c.width.ensures.value in
    let more : string_bytes c.push_fill.new.out ≡ parts_wide c.args.fill (take (n + 1) parts) from =
    wide ∙ elim c.if-index-gt0.branch [
      | then-index-gt0+in_ok-push w ↦
          ap (filled c.args.fill (columns part)) (ap string_bytes w.out-is ∙ w.in_ok-push.ensures.bytes
          ∙ ap (λ bs. string_bytes c.loop-index.out ++ bs) (encode_ascii 9 (lit< tt))
          ∙ ap (written (codes "\t")) c.loop-index.invariant)
          ∙ other_part c.args.fill parts n part from less is (omega (arith, index, w.if-index-gt0.true))
      | else-index-gt0 w ↦
          ap (filled c.args.fill (columns part)) (ap string_bytes w.out-is ∙ c.loop-index.invariant)
          ∙ first_part c.args.fill parts n part from less is (omega (arith, index, w.if-index-gt0.false))
    ] in
    more
    ∙ ap (λ k. parts_wide c.args.fill (take k parts) from) (sym (length_push seen (c.in-Some.index, c.in-Some.part)))

pub returns : goal.returns
returns c =
    let text = c.args.text.now in
    let parts = slice_split (λ b. b == 9) text in
    let from = string_bytes c.args.out.now in
    let end = YieldsList-end
    (YieldsList-from_enumerate (YieldsList-from_str_split 9 text (lit< tt) (cc) (cc) (cc)) (cc)) c.loop-index.yielded _
    c.loop-index.yielded_by _ _ c.in-None.is c.next.ensures.steps in
    c.loop-index.invariant
    ∙ ap (λ n. parts_wide c.args.fill (take n parts) from) (end.1 ∙ length-enumerate_from 0 parts)
    ∙ ap (λ ps. parts_wide c.args.fill ps from) (take-length parts)
