-- The tokens seen of a stream, and streams that begin with them.
use Rattle.std.specs.Prelude.{◌≡◌, Bool, true, false, List, [], ◌∷◌, refl}
use Rattle.rhai_lower.specs.Positions.{place}
use Rattle.rhai_lower.specs.Lexemes.{Lexeme, Sign}
use Rattle.rhai_lower.specs.declared.token.Token.TheVariants.{Plus, RightBrace}
use Rattle.rhai_grammar.specs.Causes as cause
use Rattle.rhai_grammar.specs.Causes.{Cause, Refusal}
use Rattle.rhai_grammar.specs.Delivered.{Mode, code, text, item, Tokens, Taken, ask, later, is_memory}
use Rattle.rhai_grammar.specs.Cursors.{Cursor, next_item}

-- A stream gives these tokens, one after the other, in these modes.
abbrev pub Gives : List Taken → Tokens → Type 0
Gives [] s = Unit {0}
Gives (k ∷ taken) s = (ask k.mode s ≡ k.item) × Gives taken (later k.mode s)

-- what is left of it after these
abbrev pub leads : List Taken → Tokens → Tokens
leads [] s = s
leads (k ∷ taken) s = leads taken (later k.mode s)

-- A stream begins with the tokens seen: those that were taken, and the one that was peeked, if one was.
abbrev pub BeginsWith : List Taken → Cursor → Tokens → Type 0
BeginsWith taken left s = Gives taken s × (left.peeked ≡ true → ask left.mode (leads taken s) ≡ next_item left)

-- the tokens that were taken, the latest first
abbrev pub latest_first : List Taken → List Taken → List Taken
latest_first [] before = before
latest_first (k ∷ taken) before = latest_first taken (k ∷ before)

-- Directly after this token the next one may be requested in this mode: in text mode only after a `}`.
abbrev pub MayFollow : Lexeme → Mode → Type 0
MayFollow l code = Unit {0}
MayFollow l text = l ≡ Sign RightBrace

-- After a token, each of these was requested in a mode that may follow, and so may the next request be.
abbrev pub TakenAfter : Lexeme → List Taken → (upcoming : Mode) → Type 0
TakenAfter l [] upcoming = MayFollow l upcoming
TakenAfter l (k ∷ taken) upcoming = MayFollow l k.mode × TakenAfter k.item.lexeme taken upcoming

-- The first of these tokens was requested in this mode, and each later one in code mode, or in text mode directly after
-- a `}`. So it is with the next request; where no token was taken, its mode is that of the first.
abbrev pub TakenIn : Mode → List Taken → (upcoming : Mode) → Type 0
TakenIn m [] upcoming = upcoming ≡ m
TakenIn m (k ∷ taken) upcoming = (k.mode ≡ m) × TakenAfter k.item.lexeme taken upcoming

-- the mode of the next request after these, if that of the first one is this mode and no text is due
abbrev pub mode_after : Mode → List Taken → Mode
mode_after m [] = m
mode_after m (k ∷ taken) = code

-- the tokenizer had memory for each of these tokens
abbrev pub Readable : List Taken → Type 0
Readable [] = Unit {0}
Readable (k ∷ taken) = (is_memory k.item.lexeme ≡ false) × Readable taken

-- an error at the end mark, or for another token in place of a required one
abbrev pub is_at_last : Cause → Bool
is_at_last cause.UnexpectedEOF = true
is_at_last (cause.MissingToken t) = true
is_at_last _ = false

-- Such an error has the position of the last token seen, which was peeked.
abbrev pub StandsAtLast : Refusal → Cursor → Type 0
StandsAtLast e left = is_at_last e.cause ≡ true → (left.peeked ≡ true) × (e.at ≡ (next_item left).at)

abbrev example_taken : List Taken
example_taken =
    record { mode = text; item = item (Sign Plus) (place 1 1) }
    ∷ record { mode = code; item = item (Sign RightBrace) (place 1 2) } ∷ []

-- Of two tokens the first one was requested in text mode, and the second in code mode. This is a `}`, so the next
-- request may be in either mode. Where no token was taken, the mode stays.
example : TakenIn text example_taken text × TakenIn text example_taken code × TakenIn text [] text
example = ((refl, (tt, refl)), (refl, (tt, tt)), refl)
