-- Causes of refusals, as definitions see them. Texts are bytes, and notes for people are left out.
use Rattle.std.specs.Prelude.{◌≡◌, ℕ, Bool, true, false, codes, if◌then◌else◌, refl}
use Rattle.std.specs.Rc.{rc_str_bytes}
use Rattle.rhai_lower.specs.Texts.{Text}
use Rattle.rhai_lower.specs.Positions.{nowhere}
use Rattle.rhai_lower.specs.Lexemes.{Fault, fault}
use Rattle.rhai_lower.specs.declared.position.Position.{Position}
use Rattle.rhai_grammar.specs.declared.error.InputError.{InputError}
use Rattle.rhai_grammar.specs.declared.error.InputError.TheVariants as input
use Rattle.rhai_grammar.specs.declared.error.ParseErrorType.{ParseErrorType}
use Rattle.rhai_grammar.specs.declared.error.ParseErrorType.TheVariants as error
use Rattle.rhai_grammar.specs.declared.error.ParseError.{ParseError}

-- an input that cannot be used
pub data InputCause : Type 0 where
  UnexpectedInput : Text → InputCause
  Lexer : Fault → InputCause
  MalformedNumber : Text → InputCause
  ImproperSymbol : Text → InputCause

-- why a script is refused: the kinds of error, with texts as bytes
pub data Cause : Type 0 where
  UnexpectedEOF : Cause
  BadInput : InputCause → Cause
  UnknownOperator : Text → Cause
  MissingToken : Text → Cause
  ExprExpected : Text → Cause
  MismatchedType : (due found : Text) → Cause
  MalformedIndexExpr : Text → Cause
  MalformedCapture : Cause
  PropertyExpected : Cause
  VariableExpected : Cause
  Reserved : Text → Cause
  DuplicatedProperty : Text → Cause
  DuplicatedVariable : Text → Cause
  VariableExists : Text → Cause
  VariableUndefined : Text → Cause
  ModuleUndefined : Text → Cause
  WrongSwitchDefaultCase : Cause
  WrongSwitchCaseCondition : Cause
  WrongSwitchIntegerCase : Cause
  WrongFnDefinition : Cause
  WrongDocComment : Cause
  FnMissingName : Cause
  FnMissingParams : Text → Cause
  FnMissingBody : Text → Cause
  FnDuplicatedParam : (function parameter : Text) → Cause
  FnDuplicatedDefinition : Text → ℕ → Cause
  WrongExport : Cause
  AssignmentToConstant : Text → Cause
  AssignmentToInvalidLHS : Text → Cause
  LoopBreak : Cause
  LiteralTooLarge : Text → (limit : ℕ) → Cause
  ExprTooDeep : Cause
  TooManyFunctions : Cause
  OutOfMemory : Cause

abbrev pub input_cause : InputError → InputCause
input_cause (input.UnexpectedInput t) = UnexpectedInput (rc_str_bytes t)
input_cause (input.Lexer e) = Lexer (fault e)
input_cause (input.MalformedNumber t) = MalformedNumber (rc_str_bytes t)
input_cause (input.ImproperSymbol t note) = ImproperSymbol (rc_str_bytes t)

-- the cause of an error kind of the code
abbrev pub cause_of : ParseErrorType → Cause
cause_of error.UnexpectedEOF = UnexpectedEOF
cause_of (error.BadInput e) = BadInput (input_cause e)
cause_of (error.UnknownOperator t) = UnknownOperator (rc_str_bytes t)
cause_of (error.MissingToken t note) = MissingToken (rc_str_bytes t)
cause_of (error.ExprExpected t) = ExprExpected (rc_str_bytes t)
cause_of (error.MismatchedType t u) = MismatchedType (rc_str_bytes t) (rc_str_bytes u)
cause_of (error.MalformedIndexExpr t) = MalformedIndexExpr (rc_str_bytes t)
cause_of (error.MalformedCapture note) = MalformedCapture
cause_of error.PropertyExpected = PropertyExpected
cause_of error.VariableExpected = VariableExpected
cause_of (error.Reserved t) = Reserved (rc_str_bytes t)
cause_of (error.DuplicatedProperty t) = DuplicatedProperty (rc_str_bytes t)
cause_of (error.DuplicatedVariable t) = DuplicatedVariable (rc_str_bytes t)
cause_of (error.VariableExists t) = VariableExists (rc_str_bytes t)
cause_of (error.VariableUndefined t) = VariableUndefined (rc_str_bytes t)
cause_of (error.ModuleUndefined t) = ModuleUndefined (rc_str_bytes t)
cause_of error.WrongSwitchDefaultCase = WrongSwitchDefaultCase
cause_of error.WrongSwitchCaseCondition = WrongSwitchCaseCondition
cause_of error.WrongSwitchIntegerCase = WrongSwitchIntegerCase
cause_of error.WrongFnDefinition = WrongFnDefinition
cause_of error.WrongDocComment = WrongDocComment
cause_of error.FnMissingName = FnMissingName
cause_of (error.FnMissingParams t) = FnMissingParams (rc_str_bytes t)
cause_of (error.FnMissingBody t) = FnMissingBody (rc_str_bytes t)
cause_of (error.FnDuplicatedParam t u) = FnDuplicatedParam (rc_str_bytes t) (rc_str_bytes u)
cause_of (error.FnDuplicatedDefinition t n) = FnDuplicatedDefinition (rc_str_bytes t) n
cause_of error.WrongExport = WrongExport
cause_of (error.AssignmentToConstant t) = AssignmentToConstant (rc_str_bytes t)
cause_of (error.AssignmentToInvalidLHS t) = AssignmentToInvalidLHS (rc_str_bytes t)
cause_of error.LoopBreak = LoopBreak
cause_of (error.LiteralTooLarge t n) = LiteralTooLarge (rc_str_bytes t) n
cause_of error.ExprTooDeep = ExprTooDeep
cause_of error.TooManyFunctions = TooManyFunctions
cause_of error.OutOfMemory = OutOfMemory

-- an error: its cause and its position
pub record Refusal : Type 0 where
  pub cause : Cause
  pub at : Position

abbrev pub refusal : Cause → Position → Refusal
refusal cause at = record { cause = cause; at = at }

-- the refusal of an error of the code
abbrev pub refusal_of : ParseError → Refusal
refusal_of e = refusal (cause_of e.0) e.1

-- the error when memory ran out, which has no position
abbrev pub no_memory : ParseError
no_memory = record { 0 = error.OutOfMemory; 1 = nowhere }

abbrev pub is_memory_cause : Cause → Bool
is_memory_cause OutOfMemory = true
is_memory_cause _ = false

-- the cause where a literal is expected
abbrev pub no_literal : Cause
no_literal = ExprExpected (codes "literal")

-- the refusal where a literal is expected, in place of any other but that memory ran out, and at the same position
abbrev pub as_literal : Refusal → Refusal
as_literal e = refusal (if is_memory_cause e.cause then e.cause else no_literal) e.at

abbrev pub is_memory_kind : ParseErrorType → Bool
is_memory_kind error.OutOfMemory = true
is_memory_kind _ = false

-- the error says that memory ran out
abbrev pub is_for_memory : ParseError → Bool
is_for_memory e = is_memory_kind e.0

-- If memory ran out, the error has no position.
abbrev pub MemoryIsNowhere : ParseError → Type 0
MemoryIsNowhere e = is_for_memory e ≡ true → e ≡ no_memory

-- The error reports this refusal, unless memory ran out while it was made; then it has no position.
abbrev pub Says : Refusal → ParseError → Type 0
Says r e = (is_for_memory e ≡ false → refusal_of e ≡ r) × MemoryIsNowhere e

-- the refusal when memory ran out, without a position
abbrev pub out_of_memory : Refusal
out_of_memory = refusal OutOfMemory nowhere

example : (refusal_of no_memory ≡ out_of_memory) × (is_for_memory no_memory ≡ true)
    × (as_literal out_of_memory ≡ out_of_memory)
example = (refl, refl, refl)
