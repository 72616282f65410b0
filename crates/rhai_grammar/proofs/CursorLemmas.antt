-- What a request leaves of a stream.
use Rattle.std.proofs.Common.{◌≡◌, ◌+◌, ◌≤◌, Bool, true, false, refl, arith}
use Rattle.rhai_lower.specs.Streams as S
use Rattle.rhai_lower.specs.Streams.{Requests}
use Rattle.rhai_grammar.specs.Prelude.{ask, later, is_end, left}
use Rattle.rhai_grammar.specs.Cursors.{item_of, delivered, mode_by}

-- the token that the code's stream gives is that of the delivered stream
pub asked_item : (r : Requests) (m : Bool) → ask (mode_by m) (delivered r) ≡ item_of (S.given r m)
asked_item (S.Ends end) m = refl
asked_item (S.Then a b s t) true = refl
asked_item (S.Then a b s t) false = refl

-- and so is what it leaves
pub later_tokens : (r : Requests) (m : Bool) → later (mode_by m) (delivered r) ≡ delivered (S.left_after r m)
later_tokens (S.Ends end) m = refl
later_tokens (S.Then a b s t) true = refl
later_tokens (S.Then a b s t) false = refl

-- one token less is left, unless the end is reached
pub left_rest : (r : Requests) (m : Bool) → left (delivered (S.left_after r m)) ≤ left (delivered r)
unfolding left
left_rest (S.Ends end) m = omega arith
left_rest (S.Then a b s t) true = omega arith
left_rest (S.Then a b s t) false = omega arith

pub left_taken : (r : Requests) (m : Bool) → is_end (ask (mode_by m) (delivered r)).lexeme ≡ false → left (delivered (S.left_after r m)) + 1 ≤ left (delivered r)
unfolding left
left_taken (S.Ends end) m e = absurd cc
left_taken (S.Then a b s t) true e = omega arith
left_taken (S.Then a b s t) false e = omega arith

-- what is known of a token that is taken
pub ruleset taken = (asked_item, later_tokens, left_rest, left_taken)
