-- Which tokens begin an expression. It also says what a jump makes of that: `return`, `throw` and `break` have a value
-- exactly where the next token begins one.
use Rattle.std.specs.Prelude.{◌≡◌, ◌&&◌, Bool, true, false, if◌then◌else◌, refl}
use Rattle.rhai_lower.specs.Lexemes.{Lexeme, Faulty, Sign, UnterminatedString}
use Rattle.rhai_lower.specs.declared.token.Token.{Token}
use Rattle.rhai_lower.specs.declared.token.Token.TheVariants as token
use Rattle.rhai_grammar.specs.Beginnings.{beginning, omits_operand}
use Rattle.rhai_grammar.specs.Constructs.{may_be_value}
use Rattle.rhai_grammar.specs.Contexts.{Context, allows_pipe, has_closures}
use Rattle.rhai_grammar.specs.declared.role.Bars.{Bars}
use Rattle.rhai_grammar.specs.declared.role.Bars.TheVariants as bars
use Rattle.rhai_grammar.specs.declared.role.Beginning.{Beginning}
use Rattle.rhai_grammar.specs.declared.role.Beginning.TheVariants as begin
use Rattle.rhai_grammar.specs.declared.role.OperandRole.{OperandRole}
use Rattle.rhai_grammar.specs.declared.role.OperandRole.TheVariants as place
use Rattle.rhai_grammar.specs.declared.role.OperandStart.{OperandStart}
use Rattle.rhai_grammar.specs.declared.role.OperandStart.TheVariants as start

-- A closure may be an operand, but in a case of a `switch` not one that begins with `|`.
abbrev pub may_be_closure : Context → Bars → Bool
may_be_closure context bars.Pair = has_closures context
may_be_closure context bars.List = has_closures context && allows_pipe context.filter

-- An operand begins so under this context: a construct and a closure only where it may be a value.
abbrev pub begins : Context → Beginning → Bool
begins context begin.Nothing = false
begins context (begin.Construct kind) = may_be_value context kind
begins context (begin.Closure by) = may_be_closure context by
begins context _ = true

-- A token begins an expression if it begins an operand. An error of the tokenizer counts as a beginning too, so that it
-- is this error that is refused after `return`.
abbrev pub starts : Context → Lexeme → Bool
starts context (Faulty f) = true
starts context token = begins context (beginning token)

-- ---- the role of an operand

abbrev pub sign_place : Token → OperandRole
sign_place token.ExclusiveRange = place.AfterRange
sign_place token.InclusiveRange = place.AfterRange
sign_place token.DoubleQuestion = place.AfterCoalesce
sign_place _ = place.Elsewhere

-- the role of the operand directly after an operator
abbrev pub role_after : Lexeme → OperandRole
role_after (Sign t) = sign_place t
role_after _ = place.Elsewhere

abbrev pub sign_jumps : Token → Bool
sign_jumps token.Return = true
sign_jumps token.Throw = true
sign_jumps token.Break = true
sign_jumps token.Continue = true
sign_jumps _ = false

-- the keyword of a jump
abbrev pub jumps : Lexeme → Bool
jumps (Sign t) = sign_jumps t
jumps _ = false

-- What a token is for an operand of this role: directly after a range operator some tokens say that the operand is
-- omitted, and directly after `??` a jump may stand.
abbrev pub operand_start : OperandRole → Lexeme → OperandStart
operand_start place.AfterRange token = if omits_operand token then start.Omitted else start.Written
operand_start place.AfterCoalesce token = if jumps token then start.Jump else start.Written
operand_start place.Elsewhere token = start.Written

-- `return` stands in place of an operand after `??` alone, and an error of the tokenizer begins an expression.
example : (operand_start (role_after (Sign token.DoubleQuestion)) (Sign token.Return) ≡ start.Jump)
    × (operand_start (role_after (Sign token.Plus)) (Sign token.Return) ≡ start.Written)
    × ((context : Context) → starts context (Faulty UnterminatedString) ≡ true)
    × ((context : Context) → starts context (Sign token.RightParen) ≡ false)
example = (refl, refl, λ context. refl, λ context. refl)
