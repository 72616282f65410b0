-- The stream of tokens as contracts see it.
use Rattle.std.specs.Prelude.{◌≡◌, Bool, true, false, List, [], ◌∷◌, if◌then◌else◌, refl}
use Rattle.rhai_lower.specs.Positions.{place}
use Rattle.rhai_lower.specs.declared.position.Position.{Position}
use Rattle.rhai_lower.specs.declared.token.Token.{Token}
use Rattle.rhai_lower.specs.declared.token.Token.TheVariants.{EOF, Minus, Plus}

-- What is left of a stream: what the next request gives in each mode, and what is left after it was made in that mode;
-- at the end, the end mark's position.
pub data Requests : Type 0 where
  Ends : (end : Position) → Requests
  Then : (in_code in_text : Token × Position) (after_code after_text : Requests) → Requests

-- what is left, the mode of the next request, and whether its token is peeked
pub record Stream : Type 0 where
  pub requests : Requests
  pub in_text : Bool
  pub peeked : Bool

-- a stream of which this is left; the next request is in code mode
abbrev pub at_rest : Requests → Stream
at_rest requests = record { requests = requests; in_text = false; peeked = false }

-- what a request gives
abbrev pub given : Requests → (text : Bool) → Token × Position
given (Ends end) text = (EOF, end)
given (Then a b s t) text = if text then b else a

-- what is left after a request
abbrev pub left_after : Requests → (text : Bool) → Requests
left_after (Ends end) text = Ends end
left_after (Then a b s t) text = if text then t else s

-- the token that the next request gives
abbrev pub next_item : Stream → Token × Position
next_item s = given s.requests s.in_text

-- the stream after the next token was taken
abbrev pub later : Stream → Stream
later s = at_rest (left_after s.requests s.in_text)

-- the stream with its next token peeked
abbrev pub peeking : Stream → Stream
peeking s = record s { peeked = true }

-- the stream whose next request is in text mode
abbrev pub in_text_next : Stream → Stream
in_text_next s = record s { in_text = true }

-- what a request gives in each mode, where the same is left after both
pub record Ask : Type 0 where
  pub code : Token × Position
  pub text : Token × Position

-- these requests one after the other, and then the end mark at this position
abbrev pub requests_of : List Ask → Position → Requests
requests_of [] end = Ends end
requests_of (a ∷ more) end = let rest = requests_of more end in Then a.code a.text rest rest

-- a stream of these requests, of which no token was requested
abbrev pub stream_of : List Ask → Position → Stream
stream_of asks end = at_rest (requests_of asks end)

-- One token, and then the end mark forever.
abbrev example_stream : Stream
example_stream = stream_of (record { code = (Plus, place 1 1); text = (Plus, place 1 1) } ∷ []) (place 1 2)

-- A stream that gives `+` in code mode and ends, and in text mode gives `-` and then what the first stream gives.
abbrev example_two : Stream
example_two = at_rest (Then (Plus, place 1 1) (Minus, place 1 1) (Ends (place 1 2)) example_stream.requests)

example : (next_item example_stream ≡ (Plus, place 1 1)) × (next_item (later example_stream) ≡ (EOF, place 1 2))
    × (next_item (later (later example_stream)) ≡ (EOF, place 1 2))
    × (next_item (later example_two) ≡ (EOF, place 1 2))
    × (next_item (later (in_text_next example_two)) ≡ (Plus, place 1 1))
example = (refl, refl, refl, refl, refl)
