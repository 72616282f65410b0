-- Statements that leave no trace in a list; values of statements.
use Rattle.std.specs.Prelude.{◌≡◌, Bool, true, false, Box, Option, Some, None, box_value, refl}
use Rattle.std.specs.declared.alloc.Global.{Global}
use Rattle.rhai_lower.specs.Positions.{place}
use Rattle.rhai_lower.specs.Nodes.{Optional, Statement, absent, noop, present}
use Rattle.rhai_lower.specs.View.{view}
use Rattle.rhai_lower.specs.declared.expr.Expr.{Expr}

-- an empty statement
abbrev pub is_empty : Statement → Bool
is_empty (noop p) = true
is_empty _ = false

-- an expression of the code that may be absent
abbrev pub optional_view : Option Expr → Optional
optional_view None = absent
optional_view (Some e) = present (view e)

-- the same in a box
abbrev pub boxed_view : Option (Box Expr Global) → Optional
boxed_view None = absent
boxed_view (Some b) = present (view (box_value b))

example : is_empty (noop (place 1 4)) ≡ true
example = refl
