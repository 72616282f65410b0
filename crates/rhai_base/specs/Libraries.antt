-- The functions of the code as plain data.
use Rattle.std.specs.Prelude.{◌≡◌, List, ◌++◌, map}
use Rattle.std.specs.declared.alloc.Global.{Global}
use Rattle.std.specs.declared.rc.Rc.{Rc}
use Rattle.rhai_lower.specs.View.{function_view}
use Rattle.rhai_lower.specs.declared.ast.ScriptFuncDef.{ScriptFuncDef}
use Rattle.rhai_grammar.specs.Keys.{key_of}
use Rattle.rhai_grammar.specs.Libraries.{Ended, Library}
use Rattle.rhai_grammar.specs.declared.key.FnKey.{FnKey}

-- a function of the code that has ended
abbrev pub ended : FnKey → Rc ScriptFuncDef Global → Ended
ended key function = record { key = key_of key; function = function_view function.value }

-- the functions of the code by their keys, in the order in which they ended
abbrev pub library_of : List (FnKey × Rc ScriptFuncDef Global) → Library
library_of entries = map (λ e. ended e.0 e.1) entries

-- A library begins with another one: it holds what that one holds, in this order, and more or nothing after it.
unfoldable pub Begins : (held library : Library) → Type 0
Begins held library = (more : Library) × (library ≡ held ++ more)

-- What a library began with before, it begins with after.
abbrev pub Grows : (before after : Library) → Type 0
Grows before after = (held : Library) → Begins held before → Begins held after
