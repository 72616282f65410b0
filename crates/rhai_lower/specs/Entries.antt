-- What the entries of a list deliver.
use Rattle.std.specs.Prelude.{◌≡◌, ℕ, Bool, true, false, not, Option, Some, None, List, [], ◌∷◌, if◌then◌else◌}
use Rattle.std.specs.Prelude.{position, refl}
use Rattle.std.specs.Rc.{rc_str_bytes}
use Rattle.rhai_lower.specs.Names.{is_identifier}
use Rattle.rhai_lower.specs.Positions.{nowhere}
use Rattle.rhai_lower.specs.Streams.{Ask}
use Rattle.rhai_lower.specs.declared.stream.Entry.{Entry}
use Rattle.rhai_lower.specs.declared.stream.Head.{Head}
use Rattle.rhai_lower.specs.declared.stream.Head.TheVariants as head
use Rattle.rhai_lower.specs.declared.position.Position.{Position}
use Rattle.rhai_lower.specs.declared.token.Token.{Token}
use Rattle.rhai_lower.specs.declared.token.Token.TheVariants as token
use Rattle.rhai_lower.specs.declared.token.LexError.TheVariants.{UnexpectedInput}

-- an identifier is a valid name, and the end mark is not an entry
abbrev pub token_may_be_delivered : Token → Bool
token_may_be_delivered (token.Identifier name) = is_identifier (rc_str_bytes name)
token_may_be_delivered token.EOF = false
token_may_be_delivered t = true

-- a stream may deliver the entry
abbrev pub may_be_delivered : Entry → Bool
may_be_delivered e = token_may_be_delivered e.token

-- the index of the first entry that a stream may not deliver
abbrev pub first_undeliverable : List Entry → Option ℕ
first_undeliverable entries = position (λ e. not (may_be_delivered e)) entries

abbrev example_plus : Entry
example_plus = record { token = token.Plus; pos = nowhere; text = false }

abbrev example_end : Entry
example_end = record { token = token.EOF; pos = nowhere; text = false }

example : (first_undeliverable (example_plus ∷ example_end ∷ example_plus ∷ example_end ∷ []) ≡ Some 1)
    × (first_undeliverable (example_plus ∷ []) ≡ None)
example = (refl, refl)

-- a token that is marked as text, as it is delivered in code mode
abbrev pub in_code : Token → Token
in_code (token.StringConstant s) = token.LexError (UnexpectedInput s)
in_code (token.InterpolatedString s) = token.LexError (UnexpectedInput s)
in_code t = t

-- the text from which such a token was made
abbrev pub back_in_text : Bool → Token → Token
back_in_text interpolated (token.LexError (UnexpectedInput s)) =
    if interpolated then token.InterpolatedString s else token.StringConstant s
back_in_text interpolated t = t

-- what a request for a token gives in each mode; the flag is whether it is marked as text
abbrev pub ask_of_token : Token → Position → Bool → Ask
ask_of_token t p marked = record { code = (if marked then in_code t else t, p); text = (t, p) }

-- what a request for an entry gives
abbrev pub ask_of : Entry → Ask
ask_of e = ask_of_token e.token e.pos e.text

-- the request of the token that is peeked, if one is
abbrev pub head_asks : Head → Token × Position → List Ask
head_asks (head.Unasked t) p = []
head_asks (head.End t) p = []
head_asks (head.Same t) p = record { code = p; text = p } ∷ []
head_asks head.Text p = record { code = (in_code p.0, p.1); text = p } ∷ []
head_asks (head.Code i) p = record { code = p; text = (back_in_text i p.0, p.1) } ∷ []

-- the next request is in text mode
abbrev pub head_text : Head → Bool
head_text (head.Unasked t) = t
head_text (head.End t) = t
head_text (head.Same t) = t
head_text head.Text = true
head_text (head.Code i) = false

-- the next token is peeked
abbrev pub head_peeked : Head → Bool
head_peeked (head.Unasked t) = false
head_peeked _ = true

-- if the end mark is peeked, it stands at its position, and no entry is left
abbrev pub EndsWith : Head → Token × Position → Position → List Entry → Type 0
EndsWith (head.End t) p end entries = (p ≡ (token.EOF, end)) × (entries ≡ [])
EndsWith _ p end entries = Unit {0}
