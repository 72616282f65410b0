-- When an index agrees with the names in a library.
use Rattle.std.specs.Prelude.{◌≡◌, ℕ, Bool, List}
use Rattle.std.specs.List.{list_any}
use Rattle.std.specs.Rc.{rc_str_bytes}
use Rattle.std.specs.declared.rc.RcStr.{RcStr}
use Rattle.std.specs.declared.alloc.Global.{Global}
use Rattle.rhai_lower.specs.Texts.{Text, same_text}
use Rattle.rhai_grammar.specs.Keys.{Key, has_name, closures}
use Rattle.rhai_base.specs.declared.library_index.LibraryIndex.{LibraryIndex}

-- whether a list of names has this one
abbrev pub listed : Text → List (RcStr Global) → Bool
listed name names = list_any (λ n. same_text (rc_str_bytes n) name) names

-- whether an index has this name
abbrev pub is_listed : Text → LibraryIndex → Bool
is_listed name index = listed name index.names.keys

-- the number of closures in an index
abbrev pub counted : LibraryIndex → ℕ
counted index = index.closures

-- An index agrees with the keys of a library: it has the names of the functions, and the number of closures.
pub record Agrees (index : LibraryIndex) (keys : List Key) : Type 0 where
  pub names : (name : Text) → is_listed name index ≡ has_name name keys
  pub closures : counted index ≡ closures keys
