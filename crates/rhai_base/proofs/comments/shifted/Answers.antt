-- Without lines or an indent the text stays, and else the lines are joined anew.
use Rattle.std.proofs.Common.{◌≡◌, ◌≢◌, ◌∙◌, ◌∷◌, ap, drop, map, string_bytes, sym}
use Rattle.std.proofs.lemmas.Result.{IfOk-weaker, MatchResult-weaker}
use Rattle.std.specs.Rc.{rc_str_bytes}
use Rattle.rhai_grammar.specs.Comments.{Comment, indent, joined_lines}
use Rattle.rhai_base.proofs.CommentLemmas.{shifted_less, shifted_none, shifted_same}
use Rattle.rhai_base.proofs.comments.shifted.Goals as goal

pub returns-in_default : goal.returns-in_default
returns-in_default c =
    let comment : Comment = record { text = rc_str_bytes c.args.text.now; at = c.args.pos } in
    MatchResult-weaker c.clone.result c.clone.ensures.cases (λ t e. e ∙ shifted_none comment c.args.lines.now c.in_default.ensures.cases) (λ y n. tt)

pub returns-then-n-eq0 : goal.returns-then-n-eq0
returns-then-n-eq0 c =
    let comment : Comment = record { text = rc_str_bytes c.args.text.now; at = c.args.pos } in
    MatchResult-weaker c.clone-then-n-eq0.result c.clone-then-n-eq0.ensures.cases
    (λ t e. e ∙ shifted_same comment c.args.lines.now c.in-Some.later.now c.in-Some.first.now c.in-Some.ensures.cases.0 (sym c.indent-n.ensures.value ∙ c.if-n-eq0.true))
    (λ y n. tt)

pub returns : goal.returns
returns c =
    let comment : Comment = record { text = rc_str_bytes c.args.text.now; at = c.args.pos } in
    let some : indent (map (λ x. x.now) c.in-Some.later.now) c.args.pos ≢ 0 = λ none. c.if-n-eq0.false (c.indent-n.ensures.value ∙ none) in
    let joined : string_bytes c.in_ok-join_lines.field-0 ≡ joined_lines (c.in-Some.first.now.now ∷ map (drop (indent (map (λ x. x.now) c.in-Some.later.now) c.args.pos)) (map (λ x. x.now) c.in-Some.later.now)) =
    c.in_ok-join_lines.ensures ∙ ap (λ n. joined_lines (c.in-Some.first.now.now ∷ map (drop n) (map (λ x. x.now) c.in-Some.later.now))) c.indent-n.ensures.value in
    IfOk-weaker c.from_string.result (λ t. rc_str_bytes t ≡ string_bytes c.in_ok-join_lines.field-0) _
    (λ t e. e ∙ joined ∙ shifted_less comment c.args.lines.now c.in-Some.later.now c.in-Some.first.now c.in-Some.ensures.cases.0 some)
    c.from_string.ensures.ok
