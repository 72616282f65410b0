-- The messages of the tokenizer's errors, and of an entry that may not be delivered.
use Rattle.std.specs.Prelude.{◌≡◌, ◌==◌, ◌++◌, [], length, codes, if◌then◌else◌, refl}
use Rattle.std.specs.Fmt.{decimal, digits}
use Rattle.rhai_lower.specs.Lexemes.{Fault, ImproperSymbol, MalformedNumber, NoMemory, StringTooLong, UnexpectedInput}
use Rattle.rhai_lower.specs.Lexemes.{UnterminatedString}
use Rattle.rhai_lower.specs.Texts.{Text}
use Rattle.rhai_lower.specs.declared.stream.UndeliverableEntry.{UndeliverableEntry}

-- a text, or the other one where it is empty
abbrev pub text_or : Text → Text → Text
text_or text otherwise = if length text == 0 then otherwise else text

-- the message of an input that is not expected
abbrev pub input_message : Text → Text
input_message text = codes "Unexpected '" ++ text ++ codes "'"

-- the message of a text that is not a number
abbrev pub number_message : Text → Text
number_message text = codes "Invalid number: '" ++ text ++ codes "'"

-- the message of a symbol that is not allowed: the note on what to write instead, if there is one
abbrev pub symbol_message : (symbol note : Text) → Text
symbol_message symbol note = text_or note (codes "Invalid symbol encountered: '" ++ symbol ++ codes "'")

-- the message of an error of the tokenizer
abbrev pub fault_message : Fault → Text
fault_message UnterminatedString = codes "Open string is not terminated"
fault_message (StringTooLong limit) = codes "String is too long (max " ++ decimal limit ++ codes ")"
fault_message (MalformedNumber text) = number_message text
fault_message (ImproperSymbol symbol note) = symbol_message symbol note
fault_message (UnexpectedInput text) = input_message text
fault_message NoMemory = codes "Out of memory"

-- the message of an entry that may not be delivered
abbrev pub undeliverable_message : UndeliverableEntry → Text
undeliverable_message e =
    codes "Entry " ++ decimal e.index ++ codes " is the end mark, or an identifier that is not a name"

example : (fault_message (UnexpectedInput (codes "~")) ≡ codes "Unexpected '~'")
    × (fault_message (StringTooLong 80) ≡ codes "String is too long (max 80)")
    × (fault_message (ImproperSymbol (codes "===") []) ≡ codes "Invalid symbol encountered: '==='")
    × (fault_message (ImproperSymbol (codes "===") (codes "Should it be `==`?")) ≡ codes "Should it be `==`?")
unfolding digits
example = (refl, refl, refl, refl)
