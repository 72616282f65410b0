-- Functions: where they are allowed, their parts, and what they give.
use Rattle.std.specs.Prelude.{◌≡◌, ◌+◌, Bool, true, false, ◌++◌, not, Option, List, [], codes, length}
use Rattle.std.specs.Prelude.{if◌then◌else◌, map, nat_lt, refl}
use Rattle.std.specs.Char.{is_ascii_lowercase}
use Rattle.std.specs.List.{list_any}
use Rattle.rhai_lower.specs.Texts.{Text, same_text}
use Rattle.rhai_lower.specs.Names.{is_function_name}
use Rattle.rhai_lower.specs.Lexemes.{Faulty, Lexeme, Name, Reserved, Sign, String, text_of}
use Rattle.rhai_lower.specs.Nodes.{Block}
use Rattle.rhai_lower.specs.declared.position.Position.{Position}
use Rattle.rhai_lower.specs.Tokens.{literal_of}
use Rattle.rhai_lower.specs.declared.token.Token.TheVariants as token
use Rattle.rhai_lower.specs.Slots.{fresh_slot}
use Rattle.rhai_grammar.specs.Causes as cause
use Rattle.rhai_grammar.specs.Causes.{Cause, Refusal, refusal}
use Rattle.rhai_grammar.specs.Beginnings.{missing}
use Rattle.rhai_grammar.specs.Contexts.{Context, Live}
use Rattle.rhai_grammar.specs.CommaLists.{after_part, closing_text}
use Rattle.rhai_grammar.specs.Comments.{Comment, kept_comments}
use Rattle.rhai_grammar.specs.declared.list.AfterPart.{AfterPart}
use Rattle.rhai_grammar.specs.declared.list.AfterPart.TheVariants as after
use Rattle.rhai_grammar.specs.declared.list.CommaList.{CommaList}
use Rattle.rhai_grammar.specs.declared.filter.ExprFilter.TheVariants.{All}
use Rattle.rhai_grammar.specs.declared.role.ItemRole.{ItemRole}
use Rattle.rhai_grammar.specs.declared.role.ItemRole.TheVariants as place
use Rattle.rhai_grammar.specs.Keys.{Key, has_key}
use Rattle.rhai_grammar.specs.Libraries.{Ended, Library, keys_in}
use Rattle.rhai_grammar.specs.Settings.{function_settings}

-- ---- what a function is read under

-- A function begins at level 0, under settings of its own. Its body may have `|` as an operator, and knows the live
-- imports around it, but not their numbers.
abbrev pub in_function : Context → Live → Context
in_function context live = record context {
  settings = function_settings context.settings context.options context.sizes.function_depth;
  filter = All;
  known = record context.known { imports = context.known.imports ++ live.imports };
  begun = context.begun + 1;
}

-- what is live where the body begins: the parameters
abbrev pub parameters_live : List Text → Live
parameters_live names = record { slots = map (λ name. fresh_slot name false) names; block = 0; imports = [] }

-- One more function or closure is within the limit, with those that have ended and those that have begun around it.
abbrev pub may_begin : Context → Library → Bool
may_begin context library = nat_lt (length library + context.begun) context.sizes.functions

-- ---- its name

-- a name or a string, which may be the type of the objects that a function is a method of
abbrev pub is_type : Lexeme → Bool
is_type (Name t) = true
is_type (String t) = true
is_type _ = false

-- the name of that type: `int` stands for `i64`
abbrev pub type_named : Text → Text
type_named text = if same_text text (codes "int") then codes "i64" else text

abbrev pub type_name : Lexeme → Text
type_name l = type_named (text_of l)

-- a name that a function may have: one that is not reserved
unfoldable pub names_function : Text → Bool
names_function name = is_function_name name

-- the error for a token that is no function's name
abbrev pub no_function_name : Lexeme → Cause
no_function_name (Faulty f) = cause.BadInput (cause.Lexer f)
no_function_name (Reserved t) = cause.Reserved t
no_function_name l = cause.FnMissingName

-- ---- its parameters

-- the error for a token that begins no list of parameters
abbrev pub no_parameters : (function : Text) → Lexeme → Cause
no_parameters function (Faulty f) = cause.BadInput (cause.Lexer f)
no_parameters function l = cause.FnMissingParams function

-- a keyword of the language: it has a small letter, as no other token without payload has
abbrev pub is_keyword : Lexeme → Bool
is_keyword (Sign t) = list_any is_ascii_lowercase (literal_of t)
is_keyword _ = false

example : (is_keyword (Sign token.NotIn) ≡ true) × (is_keyword (Sign token.Underscore) ≡ false)
    × (is_keyword (Sign token.EOF) ≡ false)
example = (refl, refl, refl)

abbrev pub place_by : AfterPart → ItemRole
place_by after.Close = place.End
place_by _ = place.Nothing

-- what a token is where a parameter of a function or of a closure may be
abbrev pub parameter_role : CommaList → Lexeme → ItemRole
parameter_role parts (Name t) = place.Item
parameter_role parts l = place_by (after_part parts l)

abbrev pub is_reserved_token : Lexeme → Bool
is_reserved_token (Reserved t) = true
is_reserved_token _ = false

-- the error for a token that may not stand there
abbrev pub no_parameter : CommaList → Lexeme → Cause
no_parameter parts l = if is_reserved_token l then cause.Reserved (text_of l) else
    if is_keyword l then cause.VariableExpected else missing (closing_text parts) l

-- ---- its body, and what it gives

-- the error for a token that begins no body
abbrev pub no_body : (function : Text) → Lexeme → Cause
no_body function (Faulty f) = cause.BadInput (cause.Lexer f)
no_body function l = cause.FnMissingBody function

-- a function after these doc comments, with its key: the type, the name and the number of parameters
abbrev pub ended_function : List Comment → (is_private : Bool) → (owner : Option Text) → (name : Text)
    → (parameters : List Text) → (body : Block) → Ended
ended_function comments is_private owner name parameters body = record {
  key = record { this_type = owner; name = name; params = length parameters };
  function = record {
    this_type = owner;
    name = name;
    is_private = is_private;
    parameters = parameters;
    comments = kept_comments comments;
    body = body;
  };
}

-- No function that has ended has this key.
abbrev pub is_new : Key → Library → Bool
is_new key library = not (has_key key (keys_in library))

-- the error for a function or closure whose key a function has that ended before; `at` is its `fn`, `|` or `||`
abbrev pub duplicate_of : Key → (at : Position) → Refusal
duplicate_of key at = refusal (cause.FnDuplicatedDefinition key.name key.params) at
