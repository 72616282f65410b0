-- The delivered stream, and what was taken of it.
use Rattle.std.specs.Prelude.{◌≡◌, Bool, true, false, List, ◌∷◌, refl, []}
use Rattle.rhai_grammar.specs.Libraries.{Ended, Library, with_ended}
use Rattle.rhai_grammar.specs.Uses.{Use, noted}
use Rattle.rhai_lower.specs.Positions.{place}
use Rattle.rhai_lower.specs.Lexemes.{Lexeme, Faulty, Sign, NoMemory, Name}
use Rattle.rhai_lower.specs.declared.position.Position.{Position}
use Rattle.rhai_lower.specs.declared.token.Token.TheVariants.{EOF, Plus}
use Rattle.rhai_lower.specs.Names.{is_identifier}

-- The mode in which a token is requested: text mode after a block of an interpolated string, otherwise code mode.
pub data Mode : Type 0 where
  code : Mode
  text : Mode

-- a token and its position
pub record Item : Type 0 where
  pub lexeme : Lexeme
  pub at : Position

-- this token at this position
abbrev pub item : Lexeme → Position → Item
item l p = record { lexeme = l; at = p }

-- A token for each mode, and what is left after it was requested in that mode; at the end, the end mark forever.
pub data Tokens : Type 0 where
  Ends : (at : Position) → Tokens
  Then : (in_code in_text : Item) (after_code after_text : Tokens) → Tokens

-- the first value in code mode, the second in text mode
abbrev pub by_mode : {A : Type 0} → Mode → A → A → A
by_mode code in_code in_text = in_code
by_mode text in_code in_text = in_text

-- the token requested in a mode
abbrev pub ask : Mode → Tokens → Item
ask m (Ends p) = item (Sign EOF) p
ask m (Then a b s t) = by_mode m a b

-- what is left after it was taken
abbrev pub later : Mode → Tokens → Tokens
later m (Ends p) = Ends p
later m (Then a b s t) = by_mode m s t

-- the end mark
abbrev pub is_end : Lexeme → Bool
is_end (Sign EOF) = true
is_end _ = false

-- the tokenizer ran out of memory
abbrev pub is_memory : Lexeme → Bool
is_memory (Faulty NoMemory) = true
is_memory _ = false

-- a token that was taken, and in which mode
pub record Taken : Type 0 where
  pub mode : Mode
  pub item : Item

-- What is left of a stream, what was taken of it, the latest token first, the functions that have ended, and the names
-- that the closure around has captured, each at its first use.
pub record Point : Type 0 where
  pub tokens : Tokens
  pub taken : List Taken
  pub library : Library
  pub captured : List Use

-- the next token at a point, requested in a mode
abbrev pub next_at : Mode → Point → Item
next_at m s = ask m s.tokens

-- the point after one more token
abbrev pub past : Mode → Point → Point
past m s = record s {
  tokens = later m s.tokens;
  taken = record { mode = m; item = ask m s.tokens } ∷ s.taken;
}

-- the point after one more function has ended
abbrev pub adding : Ended → Point → Point
adding ended s = record s { library = with_ended s.library ended }

-- the point where the closure around has captured these names
abbrev pub with_captured : List Use → Point → Point
with_captured uses s = record s { captured = uses }

-- the point after this use, by which the closure around captures the name or not
abbrev pub capturing : Bool → Use → Point → Point
capturing captures u s = with_captured (noted captures u s.captured) s

-- the point where a closure's body begins, which has captured nothing
abbrev pub apart : Point → Point
apart s = with_captured [] s

abbrev example_tokens : Tokens
example_tokens =
    Then (item (Sign Plus) (place 1 1)) (item (Sign Plus) (place 1 1)) (Ends (place 1 2)) (Ends (place 1 2))

-- After the only token comes the end mark, however often it is requested.
example : (ask code example_tokens ≡ item (Sign Plus) (place 1 1))
    × (ask text (later code (later code example_tokens)) ≡ item (Sign EOF) (place 1 2))
example = (refl, refl)

-- a token that a tokenizer may deliver: an identifier is a valid name, and the end mark comes only at the end
abbrev pub is_deliverable : Lexeme → Bool
is_deliverable (Name t) = is_identifier t
is_deliverable (Sign EOF) = false
is_deliverable _ = true

-- a stream of such tokens
abbrev pub IsDelivered : Tokens → Type 0
IsDelivered (Ends p) = Unit {0}
IsDelivered (Then a b s t) =
    ((is_deliverable a.lexeme ≡ true) × (is_deliverable b.lexeme ≡ true)) × (IsDelivered s × IsDelivered t)
