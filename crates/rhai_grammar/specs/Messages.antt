-- The messages in which errors are shown.
use Rattle.std.specs.Prelude.{◌≡◌, ◌==◌, ◌&&◌, ◌++◌, ℕ, Bool, [], length, codes, if◌then◌else◌, refl}
use Rattle.std.specs.Fmt.{decimal, digits}
use Rattle.std.specs.Rc.{rc_str_bytes}
use Rattle.rhai_lower.specs.Lexemes.{fault}
use Rattle.rhai_lower.specs.Messages.{fault_message, input_message, number_message, symbol_message, text_or}
use Rattle.rhai_lower.specs.Names.{is_identifier}
use Rattle.rhai_lower.specs.Positions.{described, place}
use Rattle.rhai_lower.specs.Texts.{Text}
use Rattle.rhai_lower.specs.declared.position.Position.{Position}
use Rattle.rhai_grammar.specs.Causes.{no_memory}
use Rattle.rhai_grammar.specs.declared.error.InputError.{InputError}
use Rattle.rhai_grammar.specs.declared.error.InputError.TheVariants as input
use Rattle.rhai_grammar.specs.declared.error.ParseErrorType.{ParseErrorType}
use Rattle.rhai_grammar.specs.declared.error.ParseErrorType.TheVariants as error
use Rattle.rhai_grammar.specs.declared.error.ParseError.{ParseError}

-- the message of an input that cannot be used
abbrev pub input_error_message : InputError → Text
input_error_message (input.UnexpectedInput t) = input_message (rc_str_bytes t)
input_error_message (input.Lexer e) = fault_message (fault e)
input_error_message (input.MalformedNumber t) = number_message (rc_str_bytes t)
input_error_message (input.ImproperSymbol t note) = symbol_message (rc_str_bytes t) (rc_str_bytes note)

-- a function by its name, which is empty for a closure
abbrev pub function_named : Text → Text
function_named name = if length name == 0 then codes "anonymous function" else codes "function " ++ name

-- a constant by its name, which is empty for a value without one
abbrev pub constant_named : Text → Text
constant_named name = if length name == 0 then codes "a constant value" else codes "constant " ++ name

-- a number of parameters, in words
abbrev pub parameter_count : ℕ → Text
parameter_count n =
    if n == 0 then codes "no parameters" else
    if n == 1 then codes "1 parameter" else decimal n ++ codes " parameters"

-- what a reserved text is
abbrev pub reserved_kind : Text → Text
reserved_kind t = if is_identifier t then codes "keyword" else codes "symbol"

-- the message of a kind of error
abbrev pub kind_message : ParseErrorType → Text
kind_message error.UnexpectedEOF = codes "Script is incomplete"
kind_message (error.BadInput e) = input_error_message e
kind_message (error.UnknownOperator t) = codes "Unknown operator: '" ++ (rc_str_bytes t ++ codes "'")
kind_message (error.MissingToken t note) = codes "Expecting '" ++ (rc_str_bytes t ++ (codes "' " ++ rc_str_bytes note))
kind_message (error.ExprExpected t) = codes "Expecting " ++ (rc_str_bytes t ++ codes " expression")
kind_message (error.MismatchedType due found) =
    codes "Expecting " ++ (rc_str_bytes due ++ (codes ", not " ++ rc_str_bytes found))
kind_message (error.MalformedIndexExpr t) = text_or (rc_str_bytes t) (codes "Invalid index in indexing expression")
kind_message (error.MalformedCapture note) = text_or (rc_str_bytes note) (codes "Invalid capturing")
kind_message error.PropertyExpected = codes "Expecting name of a property"
kind_message error.VariableExpected = codes "Expecting name of a variable"
kind_message (error.Reserved t) =
    codes "'" ++ (rc_str_bytes t ++ (codes "' is a reserved " ++ reserved_kind (rc_str_bytes t)))
kind_message (error.DuplicatedProperty t) =
    codes "Duplicated property for object map literal: " ++ rc_str_bytes t
kind_message (error.DuplicatedVariable t) = codes "Duplicated variable name: " ++ rc_str_bytes t
kind_message (error.VariableExists t) = codes "Variable already defined: " ++ rc_str_bytes t
kind_message (error.VariableUndefined t) = codes "Undefined variable: " ++ rc_str_bytes t
kind_message (error.ModuleUndefined t) = codes "Undefined module: " ++ rc_str_bytes t
kind_message error.WrongSwitchDefaultCase = codes "Default switch case must be the last"
kind_message error.WrongSwitchCaseCondition = codes "This switch case cannot have a condition"
kind_message error.WrongSwitchIntegerCase = codes "Numeric switch case cannot follow a range case"
kind_message error.WrongFnDefinition =
    codes "Function definitions must be at global level and cannot be inside a block or another function"
kind_message error.WrongDocComment = codes "Doc-comment must be followed immediately by a function definition"
kind_message error.FnMissingName = codes "Expecting function name in function declaration"
kind_message (error.FnMissingParams t) = codes "Expecting parameters for function " ++ rc_str_bytes t
kind_message (error.FnMissingBody t) = codes "Expecting body statement block for " ++ function_named (rc_str_bytes t)
kind_message (error.FnDuplicatedParam t parameter) =
    codes "Duplicated parameter " ++ (rc_str_bytes parameter ++ (codes " for " ++ function_named (rc_str_bytes t)))
kind_message (error.FnDuplicatedDefinition t n) =
    codes "Function " ++ (rc_str_bytes t ++ (codes " with " ++ (parameter_count n ++ codes " already exists")))
kind_message error.WrongExport = codes "Export statement can only appear at global level"
kind_message (error.AssignmentToConstant t) = codes "Cannot assign to " ++ constant_named (rc_str_bytes t)
kind_message (error.AssignmentToInvalidLHS t) = text_or (rc_str_bytes t) (codes "Expression cannot be assigned to")
kind_message error.LoopBreak = codes "Break statement should only be used inside a loop"
kind_message (error.LiteralTooLarge t n) =
    rc_str_bytes t ++ (codes " exceeds the maximum limit (" ++ (decimal n ++ codes ")"))
kind_message error.ExprTooDeep = codes "Expression exceeds maximum complexity"
kind_message error.TooManyFunctions = codes "Number of functions defined exceeds maximum limit"
kind_message error.OutOfMemory = codes "Out of memory"

-- there is no position
abbrev pub is_nowhere : Position → Bool
is_nowhere p = p.line == 0 && p.column == 0

-- the message of an error: its kind's, and the position unless there is none
abbrev pub message : ParseError → Text
message e =
    if is_nowhere e.1 then kind_message e.0 else
    kind_message e.0 ++ (codes " (" ++ (described e.1 ++ codes ")"))

example : (message no_memory ≡ codes "Out of memory")
    × (message (record { 0 = error.LoopBreak; 1 = place 3 7 })
    ≡ codes "Break statement should only be used inside a loop (line 3, position 7)")
    × (function_named [] ≡ codes "anonymous function") × (function_named (codes "f") ≡ codes "function f")
    × (constant_named [] ≡ codes "a constant value") × (constant_named (codes "x") ≡ codes "constant x")
    × (reserved_kind (codes "goto") ≡ codes "keyword") × (reserved_kind (codes "->") ≡ codes "symbol")
    × (parameter_count 0 ≡ codes "no parameters") × (parameter_count 1 ≡ codes "1 parameter")
    × (parameter_count 2 ≡ codes "2 parameters")
unfolding digits
example = (refl, refl, refl, refl, refl, refl, refl, refl, refl, refl, refl)
