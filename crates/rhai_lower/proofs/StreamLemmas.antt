-- The token that is peeked, and what is left after it.
use Rattle.std.proofs.Common.{◌≡◌, true, false, List, ◌++◌, ◌∙◌, ap, map, refl, reverse, subst, sym, true≢false}
use Rattle.rhai_lower.specs.Entries.{EndsWith, ask_of, head_asks, head_peeked, head_text}
use Rattle.rhai_lower.specs.Streams.{given, left_after, requests_of}
use Rattle.rhai_lower.specs.declared.stream.Entry.{Entry}
use Rattle.rhai_lower.specs.declared.stream.Head.{Head}
use Rattle.rhai_lower.specs.declared.stream.Head.TheVariants as head
use Rattle.rhai_lower.specs.declared.position.Position.{Position}
use Rattle.rhai_lower.specs.declared.token.Token.{Token}

pub asked_is_peeked : (h : Head) (next : Token × Position) (end : Position) (entries : List Entry)
    → head_peeked h ≡ true → EndsWith h next end entries
    → given (requests_of (head_asks h next ++ map ask_of (reverse entries)) end) (head_text h) ≡ next
asked_is_peeked (head.Unasked t) next end entries peeked ends = absurd (true≢false (sym peeked))
asked_is_peeked (head.End t) next end entries peeked (mark, none) = ap (λ es. given (requests_of (map ask_of (reverse es)) end) t) none ∙ sym mark
asked_is_peeked (head.Same true) next end entries peeked ends = refl
asked_is_peeked (head.Same false) next end entries peeked ends = refl
asked_is_peeked head.Text next end entries peeked ends = refl
asked_is_peeked (head.Code i) next end entries peeked ends = refl

-- After it was taken, what was not requested before is left.
pub rest_is_left : (h : Head) (next : Token × Position) (end : Position) (entries : List Entry)
    → head_peeked h ≡ true → EndsWith h next end entries
    → left_after (requests_of (head_asks h next ++ map ask_of (reverse entries)) end) (head_text h)
    ≡ requests_of (map ask_of (reverse entries)) end
rest_is_left (head.Unasked t) next end entries peeked ends = absurd (true≢false (sym peeked))
rest_is_left (head.End t) next end entries peeked (mark, none) =
    subst (λ es. left_after (requests_of (map ask_of (reverse es)) end) t ≡ requests_of (map ask_of (reverse es)) end)
    (sym none) refl
rest_is_left (head.Same true) next end entries peeked ends = refl
rest_is_left (head.Same false) next end entries peeked ends = refl
rest_is_left head.Text next end entries peeked ends = refl
rest_is_left (head.Code i) next end entries peeked ends = refl
