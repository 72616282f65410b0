-- Which tokens open and close brackets, and which bracket is open after some tokens.
use Rattle.std.specs.Prelude.{◌≡◌, ℕ, ◌+◌, ◌-◌, ◌==◌, ◌&&◌, Bool, true, false, List, []}
use Rattle.std.specs.Prelude.{◌∷◌, Option, Some, None, if◌then◌else◌, codes, is_some, refl}
use Rattle.rhai_lower.specs.Texts.{Text, same_text}
use Rattle.rhai_lower.specs.declared.stream.Entry.{Entry}
use Rattle.rhai_lower.specs.declared.token.Token.{Token}
use Rattle.rhai_lower.specs.declared.token.Token.TheVariants as token
use Rattle.rhai_report.specs.declared.brackets.Bracket.{Bracket}
use Rattle.rhai_report.specs.declared.brackets.Bracket.TheVariants.{Brace, Paren, Square}

-- the kind of brackets that a token opens
abbrev pub opened : Token → Option Bracket
opened token.LeftBrace = Some Brace
opened token.MapStart = Some Brace
opened token.LeftParen = Some Paren
opened token.LeftBracket = Some Square
opened token.QuestionBracket = Some Square
opened _ = None

-- the kind that a token closes
abbrev pub closed : Token → Option Bracket
closed token.RightBrace = Some Brace
closed token.RightParen = Some Paren
closed token.RightBracket = Some Square
closed _ = None

-- the kind that a text closes
abbrev pub closed_text : Text → Option Bracket
closed_text t =
    if same_text t (codes "}") then Some Brace
    else (if same_text t (codes ")") then Some Paren
    else (if same_text t (codes "]") then Some Square else None))

-- what is said of a token that opened a bracket
abbrev pub note_of : Token → Text
note_of token.LeftBrace = codes "the block was opened here"
note_of token.MapStart = codes "the object map was opened here"
note_of token.LeftParen = codes "the parenthesis was opened here"
note_of _ = codes "the bracket was opened here"

-- whether a token opens a bracket, and whether it closes one
abbrev pub opens : Token → Bool
opens t = is_some (opened t)

abbrev pub closes : Token → Bool
closes t = is_some (closed t)

-- the token of an entry
abbrev pub token_of : Entry → Token
token_of e = e.token

-- How many of these tokens close a bracket that was opened before all of them. A token closes the bracket that was
-- opened last, of whatever kind.
unfoldable pub closed_before : List Token → ℕ
closed_before [] = 0
closed_before (t ∷ ts) =
    if closes t then closed_before ts + 1 else (if opens t then closed_before ts - 1 else closed_before ts)

-- the index of one of the later tokens if there is one, and else of the first if it is meant
unfoldable pub later_or_first : Option ℕ → Bool → Option ℕ
later_or_first (Some i) first = Some (i + 1)
later_or_first None true = Some 0
later_or_first None false = None

-- The index of the token that opened the innermost bracket that is open after these tokens: the last one that opens a
-- bracket which no later token closes.
unfoldable pub innermost : List Token → Option ℕ
innermost [] = None
innermost (t ∷ ts) = later_or_first (innermost ts) (opens t && closed_before ts == 0)

-- After `{ ( )` the brace is open; after `{ ( [ ]` the parenthesis; after `( )` nothing.
example : (innermost (token.LeftBrace ∷ token.LeftParen ∷ token.RightParen ∷ []) ≡ Some 0)
    × (innermost (token.LeftBrace ∷ token.LeftParen ∷ token.LeftBracket ∷ token.RightBracket ∷ []) ≡ Some 1)
    × (innermost (token.LeftParen ∷ token.RightParen ∷ []) ≡ None)
unfolding innermost later_or_first closed_before
example = (refl, refl, refl)
