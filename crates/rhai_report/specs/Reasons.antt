-- Why a script is refused, in words.
use Rattle.std.specs.Prelude.{◌≡◌, ◌++◌, Option, Some, None, codes, refl}
use Rattle.std.specs.Rc.{rc_str_bytes}
use Rattle.rhai_lower.specs.Texts.{Text}
use Rattle.rhai_lower.specs.declared.token.LexError.TheVariants as fault
use Rattle.rhai_grammar.specs.Messages.{kind_message}
use Rattle.rhai_grammar.specs.declared.error.InputError.TheVariants as input
use Rattle.rhai_grammar.specs.declared.error.ParseErrorType.{ParseErrorType}
use Rattle.rhai_grammar.specs.declared.error.ParseErrorType.TheVariants as error

-- the symbol that an error is about, if it is not allowed, and what is said of it
abbrev pub symbol : ParseErrorType → Option (Text × Text)
symbol (error.BadInput (input.ImproperSymbol t note)) = Some (rc_str_bytes t, rc_str_bytes note)
symbol (error.BadInput (input.Lexer (fault.ImproperSymbol r))) = Some (rc_str_bytes r.value.0, rc_str_bytes r.value.1)
symbol _ = None

-- why a script is refused: the message of the error, but of such a symbol always that it is invalid
abbrev pub reason_by : Option (Text × Text) → Text → Text
reason_by (Some s) message = codes "Invalid symbol encountered: '" ++ (s.0 ++ codes "'")
reason_by None message = message

abbrev pub reason : ParseErrorType → Text
reason kind = reason_by (symbol kind) (kind_message kind)

example : reason error.LoopBreak ≡ codes "Break statement should only be used inside a loop"
example = refl
