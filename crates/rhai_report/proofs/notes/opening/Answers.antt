-- The bracket is the one that is open, and the note is on it.
use Rattle.std.proofs.Common.{◌≡◌, ◌∙◌, Some, map, rules, sym, take}
use Rattle.rhai_report.specs.Brackets.{closed_text, innermost, opened, token_of}
use Rattle.rhai_report.proofs.notes.opening.Goals as goal

pub returns : goal.returns
returns c =
    let found = c.in-Some-Some in
    let open_at : innermost (map token_of (take c.args.index c.args.tokens.now.entries.items)) ≡ Some c.in-Some.at =
    search rules in
    let same : opened found.token.now ≡ closed_text c.args.missing.now = search rules in
    record {
      bracket = record {
        at = c.in-Some.at;
        token = found.token.now;
        span = found.span;
        innermost = open_at;
        is = sym found.ensures;
        stands = sym found.ensures';
        kind = same;
      };
      text = c.in_ok-text.ensures.ok ∙ c.opening_note.ensures;
      mark = c.mark_of_span-mark.ensures;
    }
