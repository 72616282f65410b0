-- A comment of one line is joined, and another is kept.
use Rattle.std.proofs.Common.{◌≡◌, ◌++◌, ◌∙◌, ◌∷◌, [], ap, false, string_bytes, sym, true}
use Rattle.std.proofs.lemmas.List.{map_push}
use Rattle.std.proofs.lemmas.Result.{IfOk-weaker}
use Rattle.std.specs.Rc.{rc_str_bytes}
use Rattle.rhai_grammar.specs.Comments.{Comment, has_line_feed, unindented, unless_empty, with_line}
use Rattle.rhai_base.specs.Comments.{texts_of}
use Rattle.rhai_base.proofs.CommentLemmas.{one_alone_more, one_line_more}
use Rattle.rhai_base.proofs.comments.keep_comment.Goals as goal

pub returns-then-not-has_line_feed : goal.returns-then-not-has_line_feed
returns-then-not-has_line_feed c =
    let comment : Comment = record { text = rc_str_bytes c.args.text.now; at = c.args.pos } in
    let none : has_line_feed comment.text ≡ false =
    ap has_line_feed (sym c.as_str.ensures.value) ∙ sym c.has_line_feed.ensures ∙ c.if-not-has_line_feed.true in
    IfOk-weaker c.with_line.result _ _
    (λ text e. one_line_more (texts_of c.args.kept.now.items) (string_bytes c.args.joined) (string_bytes text) comment none
    (e ∙ ap (with_line (string_bytes c.args.joined)) c.as_str-then-not-has_line_feed.ensures.value))
    c.with_line.ensures

pub returns : goal.returns
returns c =
    let comment : Comment = record { text = rc_str_bytes c.args.text.now; at = c.args.pos } in
    let some : has_line_feed comment.text ≡ true =
    ap has_line_feed (sym c.as_str.ensures.value) ∙ sym c.has_line_feed.ensures ∙ c.if-not-has_line_feed.false in
    let kept : texts_of c.push.new.self.items ≡ (texts_of c.args.kept.now.items ++ unless_empty (string_bytes c.args.joined)) ++ (unindented comment ∷ []) =
    ap texts_of c.in_ok-push.ensures.items
    ∙ map_push rc_str_bytes c.keep_joined.new.kept.items c.in_ok-unindented.field-0
    ∙ ap (λ texts. texts ++ (rc_str_bytes c.in_ok-unindented.field-0 ∷ [])) c.in_ok-keep_joined.ensures
    ∙ ap (λ text. (texts_of c.args.kept.now.items ++ unless_empty (string_bytes c.args.joined)) ++ (text ∷ [])) c.in_ok-unindented.ensures in
    one_alone_more (texts_of c.args.kept.now.items) (string_bytes c.args.joined) (string_bytes c.new.result) comment (texts_of c.push.new.self.items) some c.new.ensures.bytes kept
