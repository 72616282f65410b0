-- What is kept so far, and what the comments to come add.
use Rattle.std.proofs.Common.{◌≡◌, ◌++◌, drop, string_bytes}
use Rattle.rhai_grammar.specs.Comments.{kept_after, kept_comments}
use Rattle.rhai_base.specs.Comments.{comments_of, texts_of}
use Rattle.rhai_base.proofs.comments.kept_comments.Given as goal

abbrev pub invariant-loop-comment : goal.invariant-loop-comment
invariant-loop-comment l =
    texts_of l.kept.items ++ kept_after (string_bytes l.joined) (comments_of (drop l.comment-index l.comments))
    ≡ kept_comments (comments_of l.comments)
