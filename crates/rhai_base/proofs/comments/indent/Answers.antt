-- What is the least begins every line.
use Rattle.std.proofs.Common.{◌≡◌, ◌∙◌, ◌≤◌, All, arith, fold, map, min, subst, sym}
use Rattle.std.proofs.lemmas.List.{at_drop_all}
use Rattle.rhai_grammar.specs.Comments.{indent, leading_spaces}
use Rattle.rhai_base.proofs.CommentLemmas.{indent_fits}
use Rattle.rhai_base.proofs.comments.indent.Goals as goal

pub returns-clause-fits : goal.returns-clause-fits
returns-clause-fits c =
    let e : c.loop-line.least ≡ indent (map (λ x. x.now) c.args.later.now) c.args.pos =
    sym (at_drop_all (λ ls. fold (λ n line. min n (leading_spaces line)) c.loop-line.least (map (λ x. x.now) ls)) c.args.later.now c.loop-line.line-index (omega arith))
    ∙ c.loop-line.invariant in
    subst (λ n. All (λ line. n ≤ leading_spaces line.now) c.args.later.now) (sym e) (indent_fits c.args.later.now c.args.pos)
