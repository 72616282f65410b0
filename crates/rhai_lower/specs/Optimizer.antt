-- What an optimizer makes of a script.
use Rattle.std.specs.Prelude.{◌≡◌, List, Option, Vec}
use Rattle.std.specs.Borrow.{Bor}
use Rattle.std.specs.declared.alloc.Global.{Global}
use Rattle.std.specs.declared.rc.Rc.{Rc}
use Rattle.rhai_lower.specs.Slots.{SlotValue}
use Rattle.rhai_lower.specs.declared.ast.AST.{AST}
use Rattle.rhai_lower.specs.declared.stmt.Stmt.{Stmt}
use Rattle.rhai_lower.specs.declared.ast.ScriptFuncDef.{ScriptFuncDef}
use Rattle.rhai_lower.specs.declared.optimizer.OptimizationLevel.{OptimizationLevel}

-- variables from outside, as the code hands them on
abbrev pub Constants : Type 0
Constants = Option (Bor (List SlotValue))

-- Which scripts an optimizer may make of these constants, statements and functions at this level. What uses an
-- optimizer is proved for each such relation.
abbrev pub Makes : Type 1
Makes = Constants → Vec Stmt Global → Vec (Rc ScriptFuncDef Global) Global → OptimizationLevel → AST → Type 0

-- a script of these statements and functions
abbrev pub script_of : Vec Stmt Global → Vec (Rc ScriptFuncDef Global) Global → AST
script_of statements functions = record { statements = statements; functions = functions }

-- the script as it is, whatever the constants and the level are
abbrev pub unoptimized : Makes
unoptimized constants statements functions level script = script ≡ script_of statements functions
