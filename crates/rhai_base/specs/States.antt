-- The state before anything is parsed.
use Rattle.std.specs.Prelude.{◌≡◌, true, false, List, [], Vec}
use Rattle.std.specs.declared.alloc.Global.{Global}
use Rattle.std.specs.declared.rc.RcStr.{RcStr}
use Rattle.rhai_lower.specs.Slots.{SlotValue}
use Rattle.rhai_lower.specs.declared.position.Position.{Position}
use Rattle.rhai_grammar.specs.declared.filter.ExprFilter.TheVariants.{All}
use Rattle.rhai_base.specs.Counts.{counts_of, none_yet}
use Rattle.rhai_base.specs.declared.state.ParseState.{ParseState}

-- The next token is requested in code mode, every token is allowed in an expression, there is no slot, no captured name
-- and no import, and all counts are 0. Nothing is said about the library: it may hold functions.
pub record IsFresh (s : ParseState (List SlotValue) (Vec (RcStr Global
    × Position) Global) (Vec (RcStr Global) Global)) : Type 0 where
  pub mode : s.input.now.in_text ≡ false
  pub filter : s.expr_filter ≡ All
  pub stack : s.stack ≡ []
  pub frame : s.frame_pointer ≡ 0
  pub captured : s.external_vars.items ≡ []
  pub capture : s.allow_capture ≡ true
  pub imports : s.imports.items ≡ []
  pub global_imports : s.global_imports.items ≡ []
  pub counts : counts_of s.counts ≡ none_yet
