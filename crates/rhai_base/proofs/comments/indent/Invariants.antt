-- The least so far and the lines to come give the indent.
use Rattle.std.proofs.Common.{◌≡◌, drop, fold, map, min}
use Rattle.rhai_grammar.specs.Comments.{indent, leading_spaces}
use Rattle.rhai_base.proofs.comments.indent.Given as goal

abbrev pub invariant-loop-line : goal.invariant-loop-line
invariant-loop-line l =
    fold (λ n line. min n (leading_spaces line)) l.least (map (λ x. x.now) (drop l.line-index l.later))
    ≡ indent (map (λ x. x.now) l.later) l.fn.pos
