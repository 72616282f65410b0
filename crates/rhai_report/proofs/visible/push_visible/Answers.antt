-- One more character is added as it is shown; at the end there were all.
use Rattle.std.proofs.Common.{◌∙◌, ◌++◌, ap, length, map, string_bytes, sym, take}
use Rattle.std.proofs.lemmas.Iterator.{YieldsList-from_chars}
use Rattle.std.proofs.lemmas.Iterator.Consumers.{YieldsList-end, YieldsList-turn}
use Rattle.std.proofs.Math.Seq.{take-length}
use Rattle.std.proofs.lemmas.List.{length_push}
use Rattle.std.specs.Char.{encode_utf8}
use Rattle.std.specs.Str.{chars, encode_utf8_all}
use Rattle.rhai_report.specs.Visible.{shown_as}
use Rattle.rhai_report.proofs.PrintLemmas.{shown_more}
use Rattle.rhai_report.proofs.visible.push_visible.Goals as goal

pub loop-character-preserved : goal.loop-character-preserved
loop-character-preserved c =
    let from = string_bytes c.args.out.now in
    let text = chars c.args.text.now in
    let seen = c.loop-character.yielded in
    let turn = YieldsList-turn (YieldsList-from_chars c.args.text.now c.utf8.text cc) seen _ c.loop-character.yielded_by
    _ _ c.in-Some.character c.in-Some.is c.next.ensures.steps in
    c.in_ok-push.ensures.bytes
    ∙ ap (λ d. string_bytes c.loop-character.out ++ encode_utf8 d) c.shown.ensures
    ∙ ap (λ bs. bs ++ encode_utf8 (shown_as c.in-Some.character)) c.loop-character.invariant
    ∙ shown_more shown_as from text (length seen) c.in-Some.character turn
    ∙ ap (λ n. from ++ encode_utf8_all (map shown_as (take n text))) (sym (length_push seen c.in-Some.character))

pub returns : goal.returns
returns c =
    let from = string_bytes c.args.out.now in
    let text = chars c.args.text.now in
    let end = YieldsList-end (YieldsList-from_chars c.args.text.now c.utf8.text cc) c.loop-character.yielded _
    c.loop-character.yielded_by _ _ c.in-None.is c.next.ensures.steps in
    c.loop-character.invariant
    ∙ ap (λ n. from ++ encode_utf8_all (map shown_as (take n text))) end.1
    ∙ ap (λ cs. from ++ encode_utf8_all (map shown_as cs)) (take-length text)
