-- Tokens: strengths as operators, and how those without payload are written and named.
use Rattle.std.specs.Prelude.{◌≡◌, ℕ, Bool, true, false, [], Option, None, Some, codes, refl}
use Rattle.rhai_lower.specs.Texts.{Text}
use Rattle.rhai_lower.specs.declared.token.Token.{Token}
use Rattle.rhai_lower.specs.declared.token.Token.TheVariants.{Unit, LeftBrace, RightBrace, LeftParen, RightParen}
use Rattle.rhai_lower.specs.declared.token.Token.TheVariants.{LeftBracket, RightBracket, QuestionBracket, MapStart}
use Rattle.rhai_lower.specs.declared.token.Token.TheVariants.{Period, Elvis, DoubleColon, Colon, Comma, SemiColon}
use Rattle.rhai_lower.specs.declared.token.Token.TheVariants.{DoubleArrow, Equals, Pipe, Or, Bang, Underscore}
use Rattle.rhai_lower.specs.declared.token.Token.TheVariants.{XOr, And}
use Rattle.rhai_lower.specs.declared.token.Token.TheVariants.{Ampersand, EqualsTo, NotEqualsTo, In, NotIn, LessThan}
use Rattle.rhai_lower.specs.declared.token.Token.TheVariants.{LessThanEqualsTo, GreaterThan, GreaterThanEqualsTo}
use Rattle.rhai_lower.specs.declared.token.Token.TheVariants.{DoubleQuestion, ExclusiveRange, InclusiveRange, Plus}
use Rattle.rhai_lower.specs.declared.token.Token.TheVariants.{Minus, Multiply, Divide, Modulo, PowerOf, LeftShift}
use Rattle.rhai_lower.specs.declared.token.Token.TheVariants.{RightShift, UnaryPlus, UnaryMinus, PlusAssign}
use Rattle.rhai_lower.specs.declared.token.Token.TheVariants.{MinusAssign, MultiplyAssign, DivideAssign, ModuloAssign}
use Rattle.rhai_lower.specs.declared.token.Token.TheVariants.{PowerOfAssign, LeftShiftAssign, RightShiftAssign}
use Rattle.rhai_lower.specs.declared.token.Token.TheVariants.{AndAssign, OrAssign, XOrAssign, True, False, Let, Const}
use Rattle.rhai_lower.specs.declared.token.Token.TheVariants.{If, Else, Switch, While, Loop, Do, Until, For, Break}
use Rattle.rhai_lower.specs.declared.token.Token.TheVariants.{Continue, Return, Throw, Try, Catch, Import, Export, As}
use Rattle.rhai_lower.specs.declared.token.Token.TheVariants.{Fn, Private, EOF}

-- the strength (precedence) of a binary operator
abbrev pub strength_of : Token → Option ℕ
strength_of Or = Some 30
strength_of XOr = Some 30
strength_of Pipe = Some 30
strength_of And = Some 60
strength_of Ampersand = Some 60
strength_of EqualsTo = Some 90
strength_of NotEqualsTo = Some 90
strength_of In = Some 110
strength_of NotIn = Some 110
strength_of LessThan = Some 130
strength_of LessThanEqualsTo = Some 130
strength_of GreaterThan = Some 130
strength_of GreaterThanEqualsTo = Some 130
strength_of DoubleQuestion = Some 135
strength_of ExclusiveRange = Some 140
strength_of InclusiveRange = Some 140
strength_of Plus = Some 150
strength_of Minus = Some 150
strength_of Multiply = Some 180
strength_of Divide = Some 180
strength_of Modulo = Some 180
strength_of PowerOf = Some 190
strength_of LeftShift = Some 210
strength_of RightShift = Some 210
strength_of _ = None

-- right-associative operators
abbrev pub binds_right : Token → Bool
binds_right PowerOf = true
binds_right _ = false

-- an operator that assigns
abbrev pub assigns : Token → Bool
assigns PlusAssign = true
assigns MinusAssign = true
assigns MultiplyAssign = true
assigns DivideAssign = true
assigns ModuloAssign = true
assigns PowerOfAssign = true
assigns LeftShiftAssign = true
assigns RightShiftAssign = true
assigns AndAssign = true
assigns OrAssign = true
assigns XOrAssign = true
assigns _ = false

-- how a token without payload is written
abbrev pub literal_of : Token → Text
literal_of Unit = codes "()"
literal_of LeftBrace = codes "{"
literal_of RightBrace = codes "}"
literal_of LeftParen = codes "("
literal_of RightParen = codes ")"
literal_of LeftBracket = codes "["
literal_of RightBracket = codes "]"
literal_of QuestionBracket = codes "?["
literal_of MapStart = codes "#{"
literal_of Period = codes "."
literal_of Elvis = codes "?."
literal_of DoubleColon = codes "::"
literal_of Colon = codes ":"
literal_of Comma = codes ","
literal_of SemiColon = codes ";"
literal_of DoubleArrow = codes "=>"
literal_of Equals = codes "="
literal_of Pipe = codes "|"
literal_of Or = codes "||"
literal_of Bang = codes "!"
literal_of Underscore = codes "_"
literal_of XOr = codes "^"
literal_of And = codes "&&"
literal_of Ampersand = codes "&"
literal_of EqualsTo = codes "=="
literal_of NotEqualsTo = codes "!="
literal_of In = codes "in"
literal_of NotIn = codes "!in"
literal_of LessThan = codes "<"
literal_of LessThanEqualsTo = codes "<="
literal_of GreaterThan = codes ">"
literal_of GreaterThanEqualsTo = codes ">="
literal_of DoubleQuestion = codes "??"
literal_of ExclusiveRange = codes ".."
literal_of InclusiveRange = codes "..="
literal_of Plus = codes "+"
literal_of Minus = codes "-"
literal_of Multiply = codes "*"
literal_of Divide = codes "/"
literal_of Modulo = codes "%"
literal_of PowerOf = codes "**"
literal_of LeftShift = codes "<<"
literal_of RightShift = codes ">>"
literal_of UnaryPlus = codes "+"
literal_of UnaryMinus = codes "-"
literal_of PlusAssign = codes "+="
literal_of MinusAssign = codes "-="
literal_of MultiplyAssign = codes "*="
literal_of DivideAssign = codes "/="
literal_of ModuloAssign = codes "%="
literal_of PowerOfAssign = codes "**="
literal_of LeftShiftAssign = codes "<<="
literal_of RightShiftAssign = codes ">>="
literal_of AndAssign = codes "&="
literal_of OrAssign = codes "|="
literal_of XOrAssign = codes "^="
literal_of True = codes "true"
literal_of False = codes "false"
literal_of Let = codes "let"
literal_of Const = codes "const"
literal_of If = codes "if"
literal_of Else = codes "else"
literal_of Switch = codes "switch"
literal_of While = codes "while"
literal_of Loop = codes "loop"
literal_of Do = codes "do"
literal_of Until = codes "until"
literal_of For = codes "for"
literal_of Break = codes "break"
literal_of Continue = codes "continue"
literal_of Return = codes "return"
literal_of Throw = codes "throw"
literal_of Try = codes "try"
literal_of Catch = codes "catch"
literal_of Import = codes "import"
literal_of Export = codes "export"
literal_of As = codes "as"
literal_of Fn = codes "fn"
literal_of Private = codes "private"
literal_of EOF = codes "{EOF}"
literal_of _ = []

-- Rhai's names of the kinds of tokens without payload
abbrev pub kind_of_sign : Token → Text
kind_of_sign Unit = codes "Unit"
kind_of_sign LeftBrace = codes "LeftBrace"
kind_of_sign RightBrace = codes "RightBrace"
kind_of_sign LeftParen = codes "LeftParen"
kind_of_sign RightParen = codes "RightParen"
kind_of_sign LeftBracket = codes "LeftBracket"
kind_of_sign RightBracket = codes "RightBracket"
kind_of_sign QuestionBracket = codes "QuestionBracket"
kind_of_sign MapStart = codes "MapStart"
kind_of_sign Period = codes "Period"
kind_of_sign Elvis = codes "Elvis"
kind_of_sign DoubleColon = codes "DoubleColon"
kind_of_sign Colon = codes "Colon"
kind_of_sign Comma = codes "Comma"
kind_of_sign SemiColon = codes "SemiColon"
kind_of_sign DoubleArrow = codes "DoubleArrow"
kind_of_sign Equals = codes "Equals"
kind_of_sign Pipe = codes "Pipe"
kind_of_sign Or = codes "Or"
kind_of_sign Bang = codes "Bang"
kind_of_sign Underscore = codes "Underscore"
kind_of_sign XOr = codes "XOr"
kind_of_sign And = codes "And"
kind_of_sign Ampersand = codes "Ampersand"
kind_of_sign EqualsTo = codes "EqualsTo"
kind_of_sign NotEqualsTo = codes "NotEqualsTo"
kind_of_sign In = codes "In"
kind_of_sign NotIn = codes "NotIn"
kind_of_sign LessThan = codes "LessThan"
kind_of_sign LessThanEqualsTo = codes "LessThanEqualsTo"
kind_of_sign GreaterThan = codes "GreaterThan"
kind_of_sign GreaterThanEqualsTo = codes "GreaterThanEqualsTo"
kind_of_sign DoubleQuestion = codes "DoubleQuestion"
kind_of_sign ExclusiveRange = codes "ExclusiveRange"
kind_of_sign InclusiveRange = codes "InclusiveRange"
kind_of_sign Plus = codes "Plus"
kind_of_sign Minus = codes "Minus"
kind_of_sign Multiply = codes "Multiply"
kind_of_sign Divide = codes "Divide"
kind_of_sign Modulo = codes "Modulo"
kind_of_sign PowerOf = codes "PowerOf"
kind_of_sign LeftShift = codes "LeftShift"
kind_of_sign RightShift = codes "RightShift"
kind_of_sign UnaryPlus = codes "UnaryPlus"
kind_of_sign UnaryMinus = codes "UnaryMinus"
kind_of_sign PlusAssign = codes "PlusAssign"
kind_of_sign MinusAssign = codes "MinusAssign"
kind_of_sign MultiplyAssign = codes "MultiplyAssign"
kind_of_sign DivideAssign = codes "DivideAssign"
kind_of_sign ModuloAssign = codes "ModuloAssign"
kind_of_sign PowerOfAssign = codes "PowerOfAssign"
kind_of_sign LeftShiftAssign = codes "LeftShiftAssign"
kind_of_sign RightShiftAssign = codes "RightShiftAssign"
kind_of_sign AndAssign = codes "AndAssign"
kind_of_sign OrAssign = codes "OrAssign"
kind_of_sign XOrAssign = codes "XOrAssign"
kind_of_sign True = codes "True"
kind_of_sign False = codes "False"
kind_of_sign Let = codes "Let"
kind_of_sign Const = codes "Const"
kind_of_sign If = codes "If"
kind_of_sign Else = codes "Else"
kind_of_sign Switch = codes "Switch"
kind_of_sign While = codes "While"
kind_of_sign Loop = codes "Loop"
kind_of_sign Do = codes "Do"
kind_of_sign Until = codes "Until"
kind_of_sign For = codes "For"
kind_of_sign Break = codes "Break"
kind_of_sign Continue = codes "Continue"
kind_of_sign Return = codes "Return"
kind_of_sign Throw = codes "Throw"
kind_of_sign Try = codes "Try"
kind_of_sign Catch = codes "Catch"
kind_of_sign Import = codes "Import"
kind_of_sign Export = codes "Export"
kind_of_sign As = codes "As"
kind_of_sign Fn = codes "Fn"
kind_of_sign Private = codes "Private"
kind_of_sign EOF = codes "EOF"
kind_of_sign _ = []

-- how a token without payload is written in a list of tokens: as in scripts, but the signs before an operand have a
-- `u` before them
abbrev pub written_as : Token → Text
written_as UnaryMinus = codes "u-"
written_as UnaryPlus = codes "u+"
written_as t = literal_of t

-- `*` binds more strongly than `+`, and only `**` is right-associative. The minus of a difference is written `-`, that
-- of a negative number `u-`.
example : (strength_of Plus ≡ Some 150) × (strength_of Multiply ≡ Some 180) × (binds_right Multiply ≡ false)
    × (binds_right PowerOf ≡ true) × (written_as Minus ≡ codes "-") × (written_as UnaryMinus ≡ codes "u-")
    × (written_as LeftShiftAssign ≡ codes "<<=") × (kind_of_sign NotIn ≡ codes "NotIn")
example = (refl, refl, refl, refl, refl, refl, refl, refl)
