-- What a token does where a statement begins, in a definition, and after a statement.
use Rattle.std.specs.Prelude.{◌≡◌, Bool, true, false, Option, Some, None, if◌then◌else◌, refl}
use Rattle.rhai_grammar.specs.Constructs.{may_stand}
use Rattle.rhai_grammar.specs.Contexts.{Context, allows_looping}
use Rattle.rhai_grammar.specs.declared.role.Construct.TheVariants as construct
use Rattle.rhai_lower.specs.Names.{is_identifier}
use Rattle.rhai_lower.specs.Lexemes.{Lexeme, Comment, Faulty, Reserved, Sign}
use Rattle.rhai_lower.specs.Nodes as node
use Rattle.rhai_lower.specs.declared.token.Token.{Token}
use Rattle.rhai_lower.specs.declared.token.Token.TheVariants as token
use Rattle.rhai_grammar.specs.Causes as cause
use Rattle.rhai_grammar.specs.Causes.{Cause}
use Rattle.rhai_grammar.specs.declared.role.AfterStatement.{AfterStatement}
use Rattle.rhai_grammar.specs.declared.role.AfterStatement.TheVariants as after
use Rattle.rhai_grammar.specs.declared.role.Closing.{Closing}
use Rattle.rhai_grammar.specs.declared.role.Closing.TheVariants.{Brace, EndMark}
use Rattle.rhai_grammar.specs.declared.role.StatementRole.{StatementRole}
use Rattle.rhai_grammar.specs.declared.role.StatementRole.TheVariants as place
use Rattle.rhai_grammar.specs.declared.role.StatementStart.{StatementStart}
use Rattle.rhai_grammar.specs.declared.role.StatementStart.TheVariants as start

abbrev pub sign_start : Token → StatementStart
sign_start token.SemiColon = start.Empty
sign_start token.LeftBrace = start.Construct construct.Block
sign_start token.If = start.Construct construct.If
sign_start token.Switch = start.Construct construct.Switch
sign_start token.While = start.Construct construct.While
sign_start token.Loop = start.Construct construct.Loop
sign_start token.Do = start.Construct construct.Do
sign_start token.For = start.Construct construct.For
sign_start token.Try = start.Construct construct.Try
sign_start token.Let = start.Let
sign_start token.Const = start.Const
sign_start token.Return = start.Return
sign_start token.Throw = start.Throw
sign_start token.Break = start.Break
sign_start token.Continue = start.Continue
sign_start token.Import = start.Import
sign_start token.Export = start.Export
sign_start token.Fn = start.Function
sign_start token.Private = start.Private
sign_start _ = start.Expression

-- a doc comment
abbrev pub is_comment : Lexeme → Bool
is_comment (Comment t) = true
is_comment _ = false

-- what a token begins where a statement is expected, if the engine lets scripts have loops
abbrev pub any_start : Lexeme → StatementStart
any_start (Sign t) = sign_start t
any_start (Comment t) = start.Comment
any_start _ = start.Expression

-- A start that is not allowed is an expression's: that is what is then expected there.
abbrev pub allowed_start : Context → StatementStart → StatementStart
allowed_start context (start.Construct kind) = if may_stand context kind then start.Construct kind else start.Expression
allowed_start context start.Break = if allows_looping context then start.Break else start.Expression
allowed_start context start.Continue = if allows_looping context then start.Continue else start.Expression
allowed_start context other = other

-- what a token begins where a statement is expected
abbrev pub statement_start : Context → Lexeme → StatementStart
statement_start context token = allowed_start context (any_start token)

abbrev pub sign_place : Closing → Token → StatementRole
sign_place Brace token.RightBrace = place.Close
sign_place Brace token.EOF = place.Nothing
sign_place Brace _ = place.Statement
sign_place EndMark token.EOF = place.Close
sign_place EndMark _ = place.Statement

-- what a token is where a statement of a list may begin
abbrev pub statement_role : Closing → Lexeme → StatementRole
statement_role closing (Sign t) = sign_place closing t
statement_role closing _ = place.Statement

abbrev pub sign_after : Closing → Token → AfterStatement
sign_after Brace token.SemiColon = after.SemiColon
sign_after Brace token.RightBrace = after.Close
sign_after Brace _ = after.Nothing
sign_after EndMark token.SemiColon = after.SemiColon
sign_after EndMark token.EOF = after.Close
sign_after EndMark _ = after.Nothing

-- what a token is after a statement that does not end by itself
abbrev pub token_after_statement : Closing → Lexeme → AfterStatement
token_after_statement closing (Sign t) = sign_after closing t
token_after_statement closing _ = after.Nothing

-- The tree of a statement that ends by itself, so that no semicolon has to follow: an empty statement, which is also
-- the tree of a function, and a construct but for `do`.
abbrev pub ends_itself : node.Statement → Bool
ends_itself (node.noop p) = true
ends_itself (node.block_statement b) = true
ends_itself (node.if_statement guard body branch p) = true
ends_itself (node.while_statement guard body p) = true
ends_itself (node.for_statement name counter over body p) = true
ends_itself (node.try_catch body name branch p) = true
ends_itself (node.switch_statement item arms cases ranges default p) = true
ends_itself _ = false

-- ---- after `export`

abbrev pub sign_defines : Token → Option Bool
sign_defines token.Let = Some false
sign_defines token.Const = Some true
sign_defines _ = None

-- whether a definition that a token begins is a constant's; none if it begins no definition
abbrev pub defines : Lexeme → Option Bool
defines (Sign t) = sign_defines t
defines _ = None

-- the error for a token that is no name where a variable is defined
abbrev pub no_variable : Lexeme → Cause
no_variable (Faulty f) = cause.BadInput (cause.Lexer f)
no_variable (Reserved t) = if is_identifier t then cause.Reserved t else cause.VariableExpected
no_variable l = cause.VariableExpected

-- In a block, `}` closes the list of statements, and the end mark is no statement; in a script, the end mark closes it.
-- After a statement of a block, the end mark neither goes on nor closes. A keyword is no variable.
example : (statement_role Brace (Sign token.RightBrace) ≡ place.Close)
    × (statement_role Brace (Sign token.EOF) ≡ place.Nothing)
    × (statement_role EndMark (Sign token.EOF) ≡ place.Close)
    × (token_after_statement Brace (Sign token.EOF) ≡ after.Nothing)
    × (no_variable (Sign token.Let) ≡ cause.VariableExpected)
example = (refl, refl, refl, refl, refl)
