use Rattle.rhai_tokenizer.proofs.LeafLemmas.{space_feed, space_other}
use Rattle.std.proofs.Common.{sym, ◌∙◌}
use Rattle.rhai_tokenizer.proofs.strings.space_len.Goals as goal

pub returns-then-begins_with_line_feed-clause-value : goal.returns-then-begins_with_line_feed-clause-value
returns-then-begins_with_line_feed-clause-value c = space_feed c.args.z.now (sym c.begins_with_line_feed.ensures
    ∙ c.if-begins_with_line_feed.true)

pub returns-else-begins_with_line_feed-clause-value : goal.returns-else-begins_with_line_feed-clause-value
returns-else-begins_with_line_feed-clause-value c = space_other c.args.z.now _ (sym c.begins_with_line_feed.ensures
    ∙ c.if-begins_with_line_feed.false) c.blank_len.ensures.value
