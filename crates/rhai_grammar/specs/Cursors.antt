-- The code's stream as a delivered stream.
use Rattle.std.specs.Prelude.{◌≡◌, ℕ, ◌+◌, Bool, true, false, [], ◌∷◌, max, refl}
use Rattle.rhai_lower.specs.Positions.{place}
use Rattle.rhai_lower.specs.Lexemes.{Sign, lexeme}
use Rattle.rhai_lower.specs.Streams as stream
use Rattle.rhai_lower.specs.Streams.{Ask, Requests, Stream, stream_of}
use Rattle.rhai_lower.specs.declared.position.Position.{Position}
use Rattle.rhai_lower.specs.declared.token.Token.{Token}
use Rattle.rhai_lower.specs.declared.token.Token.TheVariants.{Plus}
use Rattle.rhai_grammar.specs.Delivered.{Mode, code, text, Item, item, Tokens, Ends, Then, ask, later}

-- a token of the code with its position, as the definitions see it
abbrev pub item_of : Token × Position → Item
item_of t = item (lexeme t.0) t.1

-- the tokens that these requests deliver
abbrev pub delivered : Requests → Tokens
delivered (stream.Ends end) = Ends end
delivered (stream.Then a b s t) = Then (item_of a) (item_of b) (delivered s) (delivered t)

-- the tokens that a stream will still deliver
abbrev pub tokens_of : Stream → Tokens
tokens_of s = delivered s.requests

-- the mode of a request; the flag says whether it is text mode
abbrev pub mode_by : Bool → Mode
mode_by true = text
mode_by false = code

-- what is left of a stream, the mode of the next request, and whether its token is peeked
pub record Cursor : Type 0 where
  pub tokens : Tokens
  pub mode : Mode
  pub peeked : Bool

-- the stream of the code as a cursor
abbrev pub cursor_of : Stream → Cursor
cursor_of s = record { tokens = tokens_of s; mode = mode_by s.in_text; peeked = s.peeked }

-- the token that the next request gives
abbrev pub next_item : Cursor → Item
next_item s = ask s.mode s.tokens

-- the cursor after that token was peeked
abbrev pub after_peek : Cursor → Cursor
after_peek s = record s { peeked = true }

-- the cursor after that token was taken
abbrev pub after_take : Cursor → Cursor
after_take s = record { tokens = later s.mode s.tokens; mode = code; peeked = false }

-- the cursor after the `}` of a block in an interpolated string was taken: the next request is one in text mode
abbrev pub after_brace : Cursor → Cursor
after_brace s = record (after_take s) { mode = text }

-- the greatest number of tokens that may be left
unfoldable pub left : Tokens → ℕ
left (Ends p) = 0
left (Then a b s t) = max (left s) (left t) + 1

-- A stream of one token, which is `+` in both modes.
abbrev example_ask : Ask
example_ask = record { code = (Plus, place 1 1); text = (Plus, place 1 1) }

example : next_item (cursor_of (stream_of (example_ask ∷ []) (place 1 2))) ≡ item (Sign Plus) (place 1 1)
example = refl
