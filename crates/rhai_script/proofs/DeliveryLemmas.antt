-- A stream of entries delivers what their tokens do.
use Rattle.std.proofs.Common.{◌≡◌, ◌∙◌, Bool, true, false, List, [], ◌∷◌, ap, if◌then◌else◌, map, refl}
use Rattle.rhai_lower.specs.Entries.{ask_of, in_code}
use Rattle.rhai_lower.specs.Lexemes.{lexeme}
use Rattle.rhai_lower.specs.Streams.{requests_of, stream_of}
use Rattle.rhai_lower.specs.declared.position.Position.{Position}
use Rattle.rhai_lower.specs.declared.stream.Entry.{Entry}
use Rattle.rhai_lower.specs.declared.token.Token.{Token}
use Rattle.rhai_lower.specs.declared.token.Token.TheVariants as token
use Rattle.rhai_grammar.specs.Cursors.{Cursor, cursor_of, delivered}
use Rattle.rhai_grammar.specs.Delivered.{Then, Tokens, code, item}
use Rattle.rhai_tokenizer.specs.Meanings.{at_start}
use Rattle.rhai_tokenizer.specs.Pieces.{Piece}
use Rattle.rhai_tokenizer.specs.Readings.{IsSpelled, item_of, items}
use Rattle.rhai_tokenizer.specs.declared.limits.Limits.{Limits}
use Rattle.rhai_tokenizer.specs.declared.tokens.Tokens as T
use Rattle.rhai_script.specs.Deliveries.{as_code, cursor_in, delivers}

as_code_is : (t : Token) → lexeme (in_code t) ≡ as_code (lexeme t)
as_code_is (token.StringConstant s) = refl
as_code_is (token.InterpolatedString s) = refl
as_code_is _ = refl

by_mark : (t : Token) (marked : Bool) → lexeme (if marked then in_code t else t) ≡ (if marked then as_code
    (lexeme t) else lexeme t)
by_mark t true = as_code_is t
by_mark t false = refl

pub entries_deliver : (es : List Entry) (end : Position) → delivered (requests_of (map ask_of es) end) ≡ delivers
    (map item_of es) end
entries_deliver [] end = refl
entries_deliver (e ∷ es) end =
    let rest = delivered (requests_of (map ask_of es) end) in
    ap (λ l. Then (item l e.pos) (item (lexeme e.token) e.pos) rest rest) (by_mark e.token e.text)
    ∙ ap (λ rest. Then (item (if e.text then as_code (lexeme e.token) else lexeme e.token) e.pos) (item
    (lexeme e.token) e.pos) rest rest) (entries_deliver es end)

abbrev cursor_with : Tokens → Cursor
cursor_with tokens = record { tokens = tokens; mode = code; peeked = false }

-- the stream of the tokens of a text is the one of its pieces
pub streams_agree : (limits : Limits) (tokens : T.Tokens) (ps : List Piece) → IsSpelled limits tokens ps
    → cursor_of (stream_of (map ask_of tokens.entries.items) tokens.end) ≡ cursor_in limits ps
streams_agree limits tokens ps s =
    ap cursor_with (entries_deliver tokens.entries.items tokens.end)
    ∙ (ap (λ is. cursor_with (delivers is tokens.end)) s.entries
    ∙ ap (λ p. cursor_with (delivers (items limits at_start ps) p)) s.end)
