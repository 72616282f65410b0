-- What a form may demand of a stream, and when that is met or missed. Demands are met or missed along the stream.
use Rattle.std.specs.Prelude.{◌≡◌, ◌⊎◌, ℕ, List, Option, Some, None, Bool, true, false, refl, if◌then◌else◌}
use mathlib.Core.Logic.{inl}
use Rattle.rhai_lower.specs.Lexemes.{Lexeme}
use Rattle.rhai_lower.specs.declared.position.Position.{Position}
use Rattle.rhai_grammar.specs.Causes.{Cause, ExprTooDeep, Refusal, as_literal, no_literal, refusal}
use Rattle.rhai_grammar.specs.Delivered.{Mode, code, Item, Point, adding, apart, next_at, past, is_memory, capturing}
use Rattle.rhai_grammar.specs.Delivered.{with_captured}
use Rattle.rhai_grammar.specs.Uses.{Use}
use Rattle.rhai_grammar.specs.Libraries.{Ended, Library, closure_count}

-- what follows from a token in place of a required one
pub data Verdict : Type 0 where
  -- it is allowed here
  Fine : Verdict
  -- it is refused, with this cause and at its position
  Wrong : Cause → Verdict
  -- something before it is refused, with this error
  Blames : Refusal → Verdict
  -- no error: another form continues with it
  Otherwise : Verdict

infixr 5 ◌▸◌
mutual
  -- what a form demands at one point of a stream
  pub data Demand : Type 0 where
    -- this token comes next, requested in this mode, and is taken; some other tokens are refused
    Tok : Mode → Item → (others : Lexeme → Verdict) → Demand
    -- this token comes next, and is not taken; some other tokens are refused
    Ahead : Item → (others : Lexeme → Verdict) → Demand
    -- a test of the next token, which is not taken
    Next : (Lexeme → Verdict) → Demand
    -- Such a test, which knows the functions that have ended. After it the closure around captures a name, if the
    -- second test says so.
    Uses : (Library → Lexeme → Verdict) → (captures : Library → Lexeme → Bool) → Use → Demand
    -- a test of what was parsed, and the error if it fails
    Test : Bool → Refusal → Demand
    -- no fault was found in what was parsed; it is the error
    NoFault : (fault : Option Refusal) → Demand
    -- a test of the functions that have ended, and the error if it fails
    TestIn : (Library → Bool) → Refusal → Demand
    -- one more function ends here
    Adds : Ended → Demand
    -- Such a test, after which the closure around captures a name, if the second test says so.
    Captures : (Library → Bool) → Refusal → (captures : Library → Bool) → Use → Demand
    -- a condition on the form; no error belongs to it
    Shape : Bool → Demand
    -- These demands are met, one after the other. Where one of them is missed, the error is that a literal is expected,
    -- at the same position.
    Literally : Demands → Demand
    -- These demands are those of a closure's body: they are met from a point where nothing is captured yet. At their
    -- end so many closures have ended, and these names are captured; no error belongs to this. What the closure around
    -- had captured before is captured still.
    Apart : Demands → (number : ℕ) → (captured : List Use) → Demand

  -- demands in written order
  pub data Demands : Type 0 where
    Nothing : Demands
    ◌▸◌ : Demand → Demands → Demands

-- No form continues over a token for which the tokenizer ran out of memory: the parser refuses with `OutOfMemory`
-- there, whatever is expected.
abbrev pub verdict : (Lexeme → Verdict) → Lexeme → Verdict
verdict test lexeme = if is_memory lexeme then Otherwise else test lexeme

-- So many closures have ended here, and these names are captured.
abbrev pub HasCaptured : (number : ℕ) → (captured : List Use) → Point → Type 0
HasCaptured number captured s = (closure_count s.library ≡ number) × (s.captured ≡ captured)

-- All demands are met along the stream, from one point to another.
abbrev pub Met : Demands → (start end : Point) → Type 0
Met Nothing start end = start ≡ end
Met (Tok mode token others ▸ rest) start end = (next_at mode start ≡ token) × Met rest (past mode start) end
Met (Ahead token others ▸ rest) start end = (next_at code start ≡ token) × Met rest start end
Met (Next test ▸ rest) start end = (verdict test (next_at code start).lexeme ≡ Fine) × Met rest start end
Met (Uses test captures u ▸ rest) start end =
    (verdict (test start.library) (next_at code start).lexeme ≡ Fine)
    × Met rest (capturing (captures start.library (next_at code start).lexeme) u start) end
Met (Test holds why ▸ rest) start end = (holds ≡ true) × Met rest start end
Met (NoFault fault ▸ rest) start end = (fault ≡ None) × Met rest start end
Met (TestIn holds why ▸ rest) start end = (holds start.library ≡ true) × Met rest start end
Met (Adds ended ▸ rest) start end = Unit {0} × Met rest (adding ended start) end
Met (Captures holds why captures u ▸ rest) start end =
    (holds start.library ≡ true) × Met rest (capturing (captures start.library) u start) end
Met (Shape holds ▸ rest) start end = (holds ≡ true) × Met rest start end
Met (Literally inner ▸ rest) start end = (between : Point) × Met inner start between × Met rest between end
Met (Apart inner number captured ▸ rest) start end =
    (between : Point) × Met inner (apart start) between × HasCaptured number captured between
    × Met rest (with_captured start.captured between) end

-- the error that follows from a verdict on a token at this position
abbrev pub Refuses : Verdict → Position → Refusal → Type 0
Refuses (Wrong cause) at error = error ≡ refusal cause at
Refuses (Blames why) at error = error ≡ why
Refuses Fine at error = ⊥
Refuses Otherwise at error = ⊥

-- The verdict on the token at a point is this error.
abbrev pub Refused : (Lexeme → Verdict) → Item → Refusal → Type 0
Refused test token error = Refuses (verdict test token.lexeme) token.at error

-- The demands are met from one point up to another, and there the next one is missed, with this error. The mode is the
-- one in which the next token is requested there: text mode where a text is missed, otherwise code mode.
abbrev pub Missed : Demands → (start : Point) → (error : Refusal) → (mode : Mode) → (end : Point) → Type 0
Missed Nothing _ _ _ _ = ⊥
Missed (Tok due token others ▸ rest) start error mode end =
    (Refused others (next_at due start) error × (mode ≡ due) × (end ≡ start))
    ⊎ ((next_at due start ≡ token) × Missed rest (past due start) error mode end)
Missed (Ahead token others ▸ rest) start error mode end =
    (Refused others (next_at code start) error × (mode ≡ code) × (end ≡ start))
    ⊎ ((next_at code start ≡ token) × Missed rest start error mode end)
Missed (Next test ▸ rest) start error mode end =
    (Refused test (next_at code start) error × (mode ≡ code) × (end ≡ start))
    ⊎ ((verdict test (next_at code start).lexeme ≡ Fine) × Missed rest start error mode end)
Missed (Uses test captures u ▸ rest) start error mode end =
    (Refused (test start.library) (next_at code start) error × (mode ≡ code) × (end ≡ start))
    ⊎ ((verdict (test start.library) (next_at code start).lexeme ≡ Fine)
    × Missed rest (capturing (captures start.library (next_at code start).lexeme) u start) error mode end)
Missed (Test holds why ▸ rest) start error mode end =
    ((holds ≡ false) × (error ≡ why) × (mode ≡ code) × (end ≡ start))
    ⊎ ((holds ≡ true) × Missed rest start error mode end)
Missed (NoFault fault ▸ rest) start error mode end =
    ((fault ≡ Some error) × (mode ≡ code) × (end ≡ start)) ⊎ ((fault ≡ None) × Missed rest start error mode end)
Missed (TestIn holds why ▸ rest) start error mode end =
    ((holds start.library ≡ false) × (error ≡ why) × (mode ≡ code) × (end ≡ start))
    ⊎ ((holds start.library ≡ true) × Missed rest start error mode end)
Missed (Adds ended ▸ rest) start error mode end = Unit {0} × Missed rest (adding ended start) error mode end
Missed (Captures holds why captures u ▸ rest) start error mode end =
    ((holds start.library ≡ false) × (error ≡ why) × (mode ≡ code) × (end ≡ start))
    ⊎ ((holds start.library ≡ true) × Missed rest (capturing (captures start.library) u start) error mode end)
Missed (Shape holds ▸ rest) start error mode end = (holds ≡ true) × Missed rest start error mode end
Missed (Literally inner ▸ rest) start error mode end =
    ((why : Refusal) × Missed inner start why mode end × (error ≡ as_literal why))
    ⊎ ((between : Point) × Met inner start between × Missed rest between error mode end)
Missed (Apart inner number captured ▸ rest) start error mode end =
    Missed inner (apart start) error mode end
    ⊎ ((between : Point) × Met inner (apart start) between × HasCaptured number captured between
    × Missed rest (with_captured start.captured between) error mode end)

-- A raise at the limit is refused as a missing literal.
example : (s : Point) (at : Position) → Missed (Literally (Test false (refusal ExprTooDeep at) ▸ Nothing) ▸ Nothing) s
    (refusal no_literal at) code s
example s at = inl (refusal ExprTooDeep at, inl (refl, refl, refl, refl), refl)
