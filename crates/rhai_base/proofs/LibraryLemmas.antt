-- The functions of the code, their keys, and one function more.
use Rattle.std.proofs.Common.{◌≡◌, ◌∙◌, List, [], ◌∷◌, ◌++◌, length, ap, append_assoc, refl, subst, sym}
use Rattle.std.proofs.lemmas.List.{length-map, map-append}
use Rattle.std.specs.declared.alloc.Global.{Global}
use Rattle.std.specs.declared.rc.Rc.{Rc}
use Rattle.rhai_lower.specs.declared.ast.ScriptFuncDef.{ScriptFuncDef}
use Rattle.rhai_grammar.specs.Keys.{key_of, keys_of}
use Rattle.rhai_grammar.specs.Libraries.{Ended, Library, keys_in, with_ended}
use Rattle.rhai_grammar.specs.declared.key.FnKey.{FnKey}
use Rattle.rhai_base.specs.Libraries.{Begins, Grows, ended, library_of}

pub same_keys : (entries : List (FnKey × Rc ScriptFuncDef Global)) → keys_in (library_of entries) ≡ keys_of entries
same_keys [] = refl
same_keys (e ∷ es) = ap (λ ks. key_of e.0 ∷ ks) (same_keys es)

pub one_more : (entries : List (FnKey × Rc ScriptFuncDef Global)) (key : FnKey) (f : Rc ScriptFuncDef Global) → library_of (entries ++ (key, f) ∷ []) ≡ with_ended (library_of entries) (ended key f)
one_more entries key f = map-append (λ e. ended e.0 e.1) entries ((key, f) ∷ [])

pub as_many : (entries : List (FnKey × Rc ScriptFuncDef Global)) → length (library_of entries) ≡ length entries
as_many entries = length-map entries (λ e. ended e.0 e.1)

-- ---- a library that grows

-- one more function
pub begins_ended : (held library : Library) (e : Ended) → Begins held library → Begins held (with_ended library e)
unfolding Begins
begins_ended held library e h = (h.0 ++ e ∷ [], ap (λ es. es ++ e ∷ []) h.1 ∙ append_assoc held h.0 (e ∷ []))

pub grows_ended : (before after : Library) (e : Ended) → after ≡ with_ended before e → Grows before after
grows_ended before after e same held h = subst (Begins held) (sym same) (begins_ended held before e h)

pub grows_same : (before after : Library) → after ≡ before → Grows before after
grows_same before after same held h = subst (Begins held) (sym same) h

-- what the proof of an addition rests on
pub ruleset added = (same_keys, one_more, grows_ended, grows_same)
