-- Laws of libraries: closures' names are new, limits hold, keys are unique. As long as closures get the next number,
-- their names are new, and none is refused for its key; and what parsing leaves is within the limit, and has each key
-- once. Users rely on them.
use Rattle.std.specs.Prelude.{◌≡◌, ◌<◌, ◌^◌, ℕ, Bool, true, false, [], None, codes, refl}
use Rattle.rhai_lower.specs.declared.position.Position.{Position}
use Rattle.rhai_grammar.specs.Causes.{Cause, FnDuplicatedDefinition}
use Rattle.rhai_grammar.specs.Closures.{closure_name}
use Rattle.rhai_grammar.specs.Functions.{duplicate_of, is_new}
use Rattle.rhai_grammar.specs.Keys.{Key, is_closure}
use Rattle.rhai_grammar.specs.Libraries.{Ended, Library, closure_count, is_function, with_ended}
use Rattle.rhai_grammar.specs.NumberedLibraries.{IsNumbered}

-- Two numbers below 2^64 have different names. An empty library is numbered. One that is stays so with one more closure
-- that has the name of the next number, and with one more function that is no closure. In a numbered library no
-- function bears the name of the next closure, so that the key of this closure is new.
pub record NumbersAreKept : Type 0 where
  pub names : (a b : ℕ) → a < 2 ^ 64 → b < 2 ^ 64 → closure_name a ≡ closure_name b → a ≡ b
  pub empty : IsNumbered []
  pub closure : (library : Library) (x : Ended) → IsNumbered library → closure_count library < 2 ^ 64
      → x.key.name ≡ closure_name (closure_count library) → IsNumbered (with_ended library x)
  pub function : (library : Library) (x : Ended) → IsNumbered library → is_closure x.key ≡ false
      → IsNumbered (with_ended library x)
  pub next : (library : Library) → IsNumbered library → closure_count library < 2 ^ 64
      → is_function library (closure_name (closure_count library)) ≡ false
  pub new : (library : Library) (k : Key) → IsNumbered library → closure_count library < 2 ^ 64
      → k.name ≡ closure_name (closure_count library) → is_new k library ≡ true

-- The cause is that the key of a function is there, and by its name this function is a closure.
abbrev pub duplicates_closure : Cause → Bool
duplicates_closure (FnDuplicatedDefinition name count) =
    is_closure (record { this_type = None; name = name; params = count })
duplicates_closure _ = false

-- For a function `f` that is there it is no such cause, for the closure with the number 0 it is: the key decides.
example : (duplicates_closure (FnDuplicatedDefinition (codes "f") 1) ≡ false)
    × (duplicates_closure (FnDuplicatedDefinition (codes "anon$0000000000000000") 1) ≡ true)
    × ((k : Key) (at : Position) → duplicates_closure (duplicate_of k at).cause ≡ is_closure k)
example = (refl, refl, λ k at. refl)
