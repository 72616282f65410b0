-- Nothing is kept at first, and no comment is left at last.
use Rattle.std.proofs.Common.{◌++◌, ◌∙◌, ap, arith, string_bytes, sym}
use Rattle.std.proofs.lemmas.List.{at_drop_all}
use Rattle.rhai_grammar.specs.Comments.{kept_after}
use Rattle.rhai_base.specs.Comments.{comments_of, texts_of}
use Rattle.rhai_base.proofs.CommentLemmas.{kept_first, kept_last}
use Rattle.rhai_base.proofs.comments.kept_comments.Goals as goal

pub loop-comment-init : goal.loop-comment-init
loop-comment-init c =
    ap (λ items. texts_of items ++ kept_after (string_bytes c.new-joined.result) (comments_of c.args.comments.now)) c.new-kept.ensures.items
    ∙ ap (λ text. kept_after text (comments_of c.args.comments.now)) c.new-joined.ensures.bytes
    ∙ kept_first (comments_of c.args.comments.now)

pub returns : goal.returns
returns c =
    c.in_ok-keep_joined.ensures
    ∙ ap (λ texts. texts_of c.loop-comment.kept.items ++ texts) (sym (kept_last (string_bytes c.loop-comment.joined)))
    ∙ sym (at_drop_all (λ cs. texts_of c.loop-comment.kept.items ++ kept_after (string_bytes c.loop-comment.joined) (comments_of cs)) c.args.comments.now c.loop-comment.comment-index (omega arith))
    ∙ c.loop-comment.invariant
