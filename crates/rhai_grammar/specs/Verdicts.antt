-- Verdicts on tokens after operands and where keys begin, and errors of calls and members.
use Rattle.std.specs.Prelude.{◌==◌, Bool, codes, if◌then◌else◌}
use Rattle.rhai_lower.specs.Lexemes.{Lexeme}
use Rattle.rhai_lower.specs.Nodes.{Properties}
use Rattle.rhai_lower.specs.declared.position.Position.{Position}
use Rattle.rhai_grammar.specs.Causes as cause
use Rattle.rhai_grammar.specs.Causes.{Cause, Refusal, refusal}
use Rattle.rhai_grammar.specs.Settings.{Settings, quoted_keys}
use Rattle.rhai_grammar.specs.Contexts.{Context, may_raise}
use Rattle.rhai_grammar.specs.Literals.{KeyRole, key_role, property_count}
use Rattle.rhai_grammar.specs.Strengths.{Follower, Operator, Unknown, Other, follower_of}
use Rattle.rhai_grammar.specs.declared.filter.ExprFilter.{ExprFilter}
use Rattle.rhai_grammar.specs.Demands.{Verdict, Fine, Wrong, Otherwise}

-- No token is refused.
abbrev pub anything : Lexeme → Verdict
anything token = Otherwise

-- the error for a `::` after a property's name, which is not part of a path
abbrev pub no_path : Cause
no_path = cause.BadInput (cause.ImproperSymbol (codes "::"))

-- the error for the `!` after a path: unexpected input where arguments follow, otherwise an improper symbol
abbrev pub bang_fault : (listed : Bool) → Position → Refusal
bang_fault listed bang = refusal (cause.BadInput (if listed then cause.UnexpectedInput (codes "!")
    else cause.ImproperSymbol (codes "!"))) bang

-- what a token is where one more key may begin, after these properties
abbrev pub next_key : Settings → Properties → Lexeme → KeyRole
next_key context before token = key_role (quoted_keys context) (property_count before == 0) token

-- after an operand: no reserved symbol, since that is not an operator
abbrev pub known_follower : Follower → Verdict
known_follower (Unknown t) = Wrong (cause.UnknownOperator t)
known_follower (Operator n right) = Fine
known_follower Other = Fine

abbrev pub operator_known : ExprFilter → Lexeme → Verdict
operator_known filter token = known_follower (follower_of filter token)

-- after a run: no operator, which would continue it
abbrev pub ended_follower : Follower → Verdict
ended_follower (Operator n right) = Otherwise
ended_follower (Unknown t) = Otherwise
ended_follower Other = Fine

abbrev pub run_ends : ExprFilter → Lexeme → Verdict
run_ends filter token = ended_follower (follower_of filter token)

-- where a level is raised at the next token
abbrev pub raise_due : Context → Lexeme → Verdict
raise_due context token = if may_raise context then Fine else Wrong cause.ExprTooDeep
