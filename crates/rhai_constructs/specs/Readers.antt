-- What the readers of this crate require of the readers that they are lent, and what they promise, in one word each.
-- The value of a reader has the engine that it reads under, and the readers.
use Rattle.std.specs.Prelude.{ℕ, ◌≡◌, ◌+◌, ◌≤◌, Bool, Result, false, refl, true}
use Rattle.smallvec.specs.SmallVec.{SmallVec}
use Rattle.rhai_lower.specs.declared.expr.Expr.{Expr}
use Rattle.rhai_grammar.specs.Cursors.{left}
use Rattle.rhai_grammar.specs.declared.error.ParseError.{ParseError}
use Rattle.rhai_grammar.specs.declared.role.Construct.{Construct}
use Rattle.rhai_grammar.specs.declared.role.Construct.TheVariants as construct
use Rattle.rhai_reading.specs.Reading.{Val}
use Rattle.rhai_base.specs.Frames.{FrameValue}
use Rattle.rhai_base.specs.declared.settings.ParseSettings.{ParseSettings}
use Rattle.rhai_readers.specs.Parts.{ReadsSuch}
use Rattle.rhai_readers.specs.Readers.{Covers, Reading, ReadsAs, cases, state_of}
use Rattle.rhai_readers.specs.declared.shared.Shared.{Shared}
use Rattle.rhai_constructs.specs.Switches.{cases_view}
use Rattle.rhai_constructs.specs.declared.reader.Reader.{Reader}

-- Calls of each need below that of this goal may be made.
abbrev pub Lends : {R : Type 0} → (R → ℕ → Type 0) → Reader R → Reading → FrameValue → ParseSettings → Shared
    → Type 0
Lends lent reader goal frame settings = Covers (lent reader.readers) (goal reader.engine.now frame settings)

-- This goal is read.
abbrev pub Reads : {R : Type 0} → (reader : Reader R) → (frame : FrameValue) → (settings : ParseSettings) → (height : ℕ)
    → (goal : Reading) → {X : Type 0} → (X → Val (goal reader.engine.now frame settings))
    → Shared → Result X ParseError → Shared → Type 0
Reads reader frame settings height goal view = ReadsAs reader.engine.now frame settings height goal view

-- The same of a reader that takes a token where it succeeds.
abbrev pub Takes : {R : Type 0} → (reader : Reader R) → (frame : FrameValue) → (settings : ParseSettings) → (height : ℕ)
    → (goal : Reading) → {X : Type 0} → (X → Val (goal reader.engine.now frame settings))
    → Shared → Result X ParseError → Shared → Type 0
Takes reader frame settings height goal view old result new =
    ReadsSuch reader.engine.now frame settings height goal view
    (λ x. left (state_of new).cursor.tokens + 1 ≤ left (state_of old).cursor.tokens) old result new

-- the cases of an arm, after these
abbrev pub cases_after : SmallVec Expr → Reading
cases_after before = cases (cases_view before)

-- a block, which begins with no keyword
abbrev pub is_block : Construct → Bool
is_block construct.Block = true
is_block _ = false

example : (is_block construct.Block ≡ true) × (is_block construct.While ≡ false)
example = (refl, refl)
