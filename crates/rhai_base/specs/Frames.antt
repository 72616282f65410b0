-- What contracts see of a frame. That is what is live in a block, how deep the block is, which tokens its expressions
-- may have, and what is known around the script.
use Rattle.std.specs.Prelude.{◌≡◌, ℕ, ◌+◌, ◌<◌, ◌^◌, List, [], Option, Some, None, flat_map, length, map}
use Rattle.std.specs.Borrow.{Bor}
use Rattle.std.specs.Rc.{rc_str_bytes}
use Rattle.std.specs.declared.alloc.Global.{Global}
use Rattle.std.specs.declared.rc.RcStr.{RcStr}
use Rattle.rhai_lower.specs.Slots.{SlotValue}
use Rattle.rhai_lower.specs.Texts.{Text}
use Rattle.rhai_grammar.specs.Contexts as context
use Rattle.rhai_grammar.specs.Contexts.{Live}
use Rattle.rhai_grammar.specs.declared.filter.ExprFilter.{ExprFilter}

abbrev pub known_variables : Option (Bor (List SlotValue)) → List SlotValue
known_variables None = []
known_variables (Some variables) = variables.now

-- the names of imports, which are in lists
abbrev pub imported_names : List (Bor (List (RcStr Global))) → List Text
imported_names = flat_map (λ names. map rc_str_bytes names.now)

-- What is live, how many frames are around this one, which tokens an expression may have, what is known around the
-- script, and how many functions and closures have begun around the frame.
pub record FrameValue : Type 0 where
  pub live : Live
  pub depth : ℕ
  pub filter : ExprFilter
  pub known : context.Known
  pub begun : ℕ

-- A frame is as deep as it was, its expressions may contain the same tokens, the same is known, and as many functions
-- have begun.
pub record SameSurroundings (old new : FrameValue) : Type 0 where
  pub depth : new.depth ≡ old.depth
  pub filter : new.filter ≡ old.filter
  pub known : new.known ≡ old.known
  pub begun : new.begun ≡ old.begun

-- the slots of the frame around a frame, and of all frames around that one
abbrev pub outer_slots : Option (Bor FrameValue) → List SlotValue
outer_slots None = []
outer_slots (Some outer) = outer.now.live.slots

-- their imports
abbrev pub outer_imports : Option (Bor FrameValue) → List Text
outer_imports None = []
outer_imports (Some outer) = outer.now.live.imports

-- how many frames are around a frame
abbrev pub outer_depth : Option (Bor FrameValue) → ℕ
outer_depth None = 0
outer_depth (Some outer) = outer.now.depth + 1

-- A frame knows how many slots and imports are around it, and the numbers of all slots and of all imports are `usize`.
pub record IsCounted (outer : Option (Bor FrameValue)) (below : ℕ) (stack : List SlotValue) (above : ℕ)
    (imports : List Text) : Type 0 where
  pub counted : below ≡ length (outer_slots outer)
  pub fits : below + length stack < 2 ^ 64
  pub imported : above ≡ length (outer_imports outer)
  pub few : above + length imports < 2 ^ 64
