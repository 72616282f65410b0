-- What the parser promises of a stream that it parses. Written forms alone are named there.
use Rattle.std.specs.Prelude.{◌≡◌, ◌⊎◌, Bool, true, false, List, [], Result, Ok, Err, IfOk, IfErr}
use Rattle.rhai_grammar.specs.Causes.{Refusal, is_for_memory, refusal_of}
use Rattle.rhai_grammar.specs.Delivered.{Mode, text, Taken, Point, is_memory}
use Rattle.rhai_grammar.specs.Cursors.{Cursor, next_item}
use Rattle.rhai_grammar.specs.Seen.{Gives, leads, TakenIn, mode_after, latest_first, BeginsWith, Readable, StandsAtLast}
use Rattle.rhai_grammar.specs.Demands.{Demands, Met, Missed, Nothing}
use Rattle.rhai_grammar.specs.Libraries.{Library}
use Rattle.rhai_grammar.specs.Uses.{Use}
use Rattle.rhai_grammar.specs.declared.error.ParseError.{ParseError}
use Rattle.rhai_grammar.specs.Goals.{Goal, Val}
use Rattle.rhai_grammar.specs.Rules.{production}
use Rattle.rhai_grammar.specs.Forms as form

-- ---- the forms of a goal

-- a form of a goal, with its tree
abbrev pub Written : Goal → Type 0
Written g = (x : Val g) × form.Form production g x

-- what it demands of a stream
abbrev pub written : (g : Goal) → Written g → Demands
written g f = form.demands production f.1 Nothing

abbrev pub tree_of : (g : Goal) → Written g → Val g
tree_of g f = f.0

-- an open form of a goal
abbrev pub Unwritten : Goal → Type 0
Unwritten g = form.Open production g

-- what it demands; the last demand is the one that is missed
abbrev pub unwritten : (g : Goal) → Unwritten g → Demands
unwritten g f = form.stops production f

-- ---- what fits

-- the point at which parsing starts, with these functions
abbrev pub start_of : Library → Cursor → Point
start_of library s = record { tokens = s.tokens; taken = []; library = library; captured = [] }

-- A form fits after some functions and spells a whole stream, up to its end mark; `whole` is what each form demands of
-- it.
abbrev pub IsWritten : {F : Type 0} → (whole : F → Demands) → F → (before : Library) → Cursor → Type 0
IsWritten whole f before s = (t : Point) × Met (whole f) (start_of before s) t

-- the same, and these are the functions after it
abbrev pub IsWrittenTo : {F : Type 0} → (whole : F → Demands) → F → (before after : Library) → Cursor → Type 0
IsWrittenTo whole f before after s = (t : Point) × Met (whole f) (start_of before s) t × (t.library ≡ after)

-- ---- the answer

-- the result is such a one, unless memory ran out
abbrev pub Returns : {X : Type 0} → (X → Type 0) → Result X ParseError → Type 0
Returns Is (Ok x) = Is x
Returns Is (Err e) = is_for_memory e ≡ true

-- ---- what was seen

-- These tokens were taken from a stream one after the other, which left it as it is now.
pub record Saw (taken : List Taken) (start left : Cursor) : Type 0 where
  pub gives : Gives taken start.tokens
  pub leaves : left.tokens ≡ leads taken start.tokens

-- The tokenizer had memory for all that was seen.
pub record IsReadable (taken : List Taken) (left : Cursor) : Type 0 where
  pub tokens : Readable (latest_first taken [])
  pub peeked : left.peeked ≡ true → is_memory (next_item left).lexeme ≡ false

-- The mode of the next request is code mode if a token was taken, and otherwise what it was; only after a refusal it
-- may be text mode, where a text was due and another token was peeked.
abbrev pub EndsIn : (refused : Bool) → Mode → List Taken → Cursor → Type 0
EndsIn false m taken left = left.mode ≡ mode_after m taken
EndsIn true m taken left = (left.mode ≡ mode_after m taken) ⊎ ((left.mode ≡ text) × (left.peeked ≡ true))

-- Some tokens were taken, and the tokenizer had memory for each of them, and for the one that is peeked, if one
-- is. The first token was taken in the mode that the stream had at the start, and each later one in code mode, or in
-- text mode directly after a `}`.
pub record HasRead (start left : Cursor) (refused : Bool) : Type 0 where
  pub taken : List Taken
  pub saw : Saw taken start left
  pub modes : TakenIn start.mode taken left.mode
  pub mode : EndsIn refused start.mode taken left
  pub memory : IsReadable taken left

-- This holds of a result, which may be a refusal, unless memory ran out.
abbrev pub UnlessMemory : {A : Type 0} → (P : (refused : Bool) → Type 0) → Result A ParseError → Type 0
UnlessMemory P (Ok x) = P false
UnlessMemory P (Err e) = is_for_memory e ≡ false → P true

-- ---- refusals

-- A form misses its next demand at the place where the stream is now, with this error, and its functions that have
-- ended are after those before. The next request is in the mode of that demand: in text mode where a text is missed,
-- otherwise in code mode.
pub record IsNamed {F : Type 0} (whole : F → Demands) (before after : Library) (taken : List Taken)
    (start left : Cursor) (e : Refusal) : Type 0
  where
    pub form : F
    -- the names that the closure around had captured there
    pub captured : List Use
    pub missed : Missed (whole form) (start_of before start) e left.mode (record {
      tokens = left.tokens;
      taken = latest_first taken [];
      library = after;
      captured = captured;
    })
    pub last : StandsAtLast e left

-- No form that fits after these functions begins with the tokens seen.
abbrev pub NoneBegins : {F : Type 0} → (whole : F → Demands) → (before : Library) → List Taken → Cursor → Type 0
NoneBegins {F} whole before taken left =
    (f : F) (s : Cursor) → IsWritten whole f before s → BeginsWith taken left s.tokens → ⊥

-- ---- the promise

-- A refusal after the tokens seen, where a goal is read: an open form misses its last demand there, with this error;
-- and no form that fits begins with these tokens.
pub record IsRefused (g : Goal) (before after : Library) (taken : List Taken) (start left : Cursor) (e : Refusal) :
    Type 0
  where
    pub saw : Saw taken start left
    pub named : IsNamed (unwritten g) before after taken start left e
    pub early : NoneBegins (written g) before taken left
    pub memory : IsReadable taken left

-- What is promised of the result on a stream that is read as a goal, where `left` is what is left of it, `before` the
-- functions at the start, and `after` those that there are then. `Is` says that a result is the one of a form.
-- - `accepted`: a result is that of some form that fits and spells the whole stream, and so are the functions;
-- - `only`: it is the result of each such form, and so are the functions, unless memory ran out;
-- - `refused`: an error other than out of memory is one that an open form gives after the tokens seen, with the
--   functions that had ended there, and no form that fits begins with these tokens.
pub record ReadsWhole {X : Type 0} (g : Goal) (Is : Written g → X → Type 0) (before after : Library)
    (start left : Cursor) (result : Result X ParseError) : Type 0 where
  pub accepted : IfOk result (λ x. (f : Written g) × IsWrittenTo (written g) f before after start × Is f x)
  pub only : (f : Written g) (other : Library) → IsWrittenTo (written g) f before other start
      → Returns (λ x. Is f x × (after ≡ other)) result
  pub refused : IfErr result (λ e. is_for_memory e ≡ false
      → (taken : List Taken) × IsRefused g before after taken start left (refusal_of e))
