-- What a call tells of a text.
use Rattle.std.specs.Prelude.{◌≡◌, ◌==◌, ℕ, Err, IsUtf8, List, None, Ok, Option, Result, Some, false}
use Rattle.std.specs.Prelude.{if◌then◌else◌, length, map, refl}
use Rattle.std.specs.Borrow.{Bor}
use Rattle.std.specs.Global.{Vec}
use Rattle.std.specs.Str.Lossy.{utf8_valid_len}
use Rattle.std.specs.Vec.{vec_ptr}
use Rattle.std.specs.Ptr.{null_ptr}
use Rattle.json.specs.Print.{print}
use Rattle.rhai_lower.specs.Optimizer.{Constants, unoptimized}
use Rattle.rhai_lower.specs.Slots.{SlotValue}
use Rattle.rhai_lower.specs.Texts.{Text}
use Rattle.rhai_lower.specs.View.{function_view, statement_views}
use Rattle.rhai_lower.specs.declared.ast.AST.{AST}
use Rattle.rhai_lower.specs.declared.optimizer.OptimizationLevel.TheVariants as level
use Rattle.rhai_grammar.specs.Causes.{is_for_memory}
use Rattle.rhai_grammar.specs.declared.error.ParseError.{ParseError}
use Rattle.rhai_json.specs.Trees.{script_json}
use Rattle.rhai_script.specs.Scripts.{ReadsTextAsAst, ReadsTextAsExpression}
use Rattle.rhai_c.specs.Json.{TellsNames, TellsRefusal, TellsTokens}
use Rattle.rhai_c.specs.Statuses.{number_of}
use Rattle.rhai_c.specs.declared.answer.RhaiAnswer.{RhaiAnswer}
use Rattle.rhai_c.specs.declared.kept.Kept.{Kept}
use Rattle.rhai_c.specs.declared.kept.Kept.TheVariants as kept
use Rattle.rhai_c.specs.declared.scripts.Kind.{Kind}
use Rattle.rhai_c.specs.declared.scripts.Kind.TheVariants as kind
use Rattle.rhai_c.specs.declared.scripts.Question.{Question}
use Rattle.rhai_c.specs.declared.scripts.Question.TheVariants as question
use Rattle.rhai_c.specs.declared.scripts.Reply.{Reply}
use Rattle.rhai_c.specs.declared.scripts.Reply.TheVariants as reply
use Rattle.rhai_c.specs.declared.scripts.Told.{Told}
use Rattle.rhai_c.specs.declared.scripts.Told.TheVariants as told
use Rattle.rhai_c.specs.declared.settings.Settings.{Settings}
use Rattle.rhai_c.specs.declared.status.Status.{Status}
use Rattle.rhai_c.specs.declared.status.Status.TheVariants as status

-- the kind that C has a number for
abbrev pub kind_of : ℕ → Option Kind
kind_of n = if n == 0 then Some kind.Script else if n == 1 then Some kind.Expression else None

example : (kind_of 1 ≡ Some kind.Expression) × (kind_of 2 ≡ None)
example = (refl, refl)

-- a text is read so, as one of the two kinds, with these constants from outside
abbrev pub IsRead : Kind → Settings → Constants → Text → Result AST ParseError → Type 0
IsRead kind.Script s constants = ReadsTextAsAst unoptimized s.engine constants level.None s.limits
IsRead kind.Expression s constants = ReadsTextAsExpression unoptimized s.engine constants level.None s.limits

-- a text is read so under these settings
pub record ReadsAs (k : Kind) (s : Settings) (text : Text) (result : Result AST ParseError) : Type 0 where
  pub constants : Bor (List SlotValue)
  pub same : constants.now ≡ s.constants
  pub reads : IsRead k s (Some constants) text result

-- the JSON of a script's tree
abbrev pub tree_text : AST → Text
tree_text script =
    print (script_json (statement_views script.statements.items) (map (λ f. function_view f.value)
    script.functions.items))

-- what is told of a script: the JSON of its tree, or of the names that its functions need
abbrev pub Tells : Told → AST → Text → Type 0
Tells told.Tree script text = text ≡ tree_text script
Tells told.Names script text = TellsNames (map (λ f. function_view f.value) script.functions.items) text

-- the text is a script, and this is told of it
pub record Accepts (k : Kind) (t : Told) (s : Settings) (text reply : Text) : Type 0 where
  pub script : AST
  pub reads : ReadsAs k s text (Ok script)
  pub tells : Tells t script reply

-- the text is no script, and not because memory ran out; this says why
pub record Refuses (k : Kind) (s : Settings) (text reply : Text) : Type 0 where
  pub error : ParseError
  pub reads : ReadsAs k s text (Err error)
  pub for_itself : is_for_memory error ≡ false
  pub tells : TellsRefusal s.limits text error reply

-- What is told of a text. A text always has tokens. That memory ran out may be told of every text.
abbrev pub IsReply : Question → Settings → Text → Reply → Type 0
IsReply q s text reply.NoMemory = Unit {0}
IsReply q s text (reply.NotUtf8 n) = (IsUtf8 text → ⊥) × (n ≡ utf8_valid_len text)
IsReply (question.Script k t) s text (reply.Accepted v) = IsUtf8 text × Accepts k t s text v.items
IsReply (question.Script k t) s text (reply.Refused v) = IsUtf8 text × Refuses k s text v.items
IsReply question.Tokens s text (reply.Accepted v) = IsUtf8 text × TellsTokens s.limits text v.items
IsReply question.Tokens s text (reply.Refused v) = ⊥

-- an answer without a text, and with this length
abbrev pub HasNone : ℕ → RhaiAnswer → Type 0
HasNone n answer = (answer.kept.value ≡ None) × (answer.text ≡ null_ptr) × (answer.length ≡ n)

-- an answer that owns a text, and where its bytes are
abbrev pub HasText : Vec ℕ → RhaiAnswer → Type 0
HasText v answer =
    (answer.kept.value ≡ Some (kept.Text v)) × (answer.text ≡ vec_ptr v) × (answer.length ≡ length v.items)

-- the status and the answer of a reply; memory may run out for the answer too
abbrev pub Shows : Status → Reply → RhaiAnswer → Type 0
Shows status.NoMemory r answer = HasNone 0 answer
Shows status.Ok (reply.Accepted v) answer = HasText v answer
Shows status.Refused (reply.Refused v) answer = HasText v answer
Shows status.NotUtf8 (reply.NotUtf8 n) answer = HasNone n answer
Shows _ _ _ = ⊥

-- a reply to a question under these settings, and how it is shown
pub record Replies (q : Question) (s : Settings) (text : Text) (answer : RhaiAnswer) (number : ℕ) : Type 0 where
  pub reply : Reply
  pub status : Status
  pub told : IsReply q s text reply
  pub shown : Shows status reply answer
  pub numbered : number ≡ number_of status

-- what a question to what a host holds gives: without settings it is a bad argument
abbrev pub Answers : Question → Option Kept → Text → RhaiAnswer → ℕ → Type 0
Answers q (Some (kept.Settings s)) text answer number = Replies q s text answer number
Answers q (Some (kept.Text v)) text answer number = HasNone 0 answer × (number ≡ number_of status.BadArgument)
Answers q None text answer number = HasNone 0 answer × (number ≡ number_of status.BadArgument)

-- the same, where the question depends on the kind's number
abbrev pub AnswersFor : Option Kind → Told → Option Kept → Text → RhaiAnswer → ℕ → Type 0
AnswersFor (Some k) t held text answer number = Answers (question.Script k t) held text answer number
AnswersFor None t held text answer number = HasNone 0 answer × (number ≡ number_of status.BadArgument)
