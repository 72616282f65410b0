-- Libraries whose closures are numbered, so that the name of the next closure is new.
use Rattle.std.specs.Prelude.{◌≡◌, ◌<◌, ◌≤◌, ◌+◌, ℕ, true, false, None, [], ◌∷◌, count_by, length, refl}
use Rattle.std.specs.List.{Contains}
use Rattle.rhai_lower.specs.Nodes.{braces, no_statements}
use Rattle.rhai_lower.specs.Positions.{nowhere}
use Rattle.rhai_lower.specs.Texts.{same_text}
use Rattle.rhai_grammar.specs.Closures.{closure_name, last_hex_digits}
use Rattle.rhai_grammar.specs.Functions.{is_new}
use Rattle.rhai_grammar.specs.Keys.{Key, is_closure}
use Rattle.rhai_grammar.specs.Libraries.{Ended, Library, closure_count, keys_in, with_ended}

-- how many functions bear the name of the closure with this number
abbrev pub bearers : Library → (number : ℕ) → ℕ
bearers library number = count_by (λ k. same_text k.name (closure_name number)) (keys_in library)

-- The closures of a library bear the names of the numbers below their count, each once.
pub record IsNumbered (library : Library) : Type 0 where
  pub below : (k : Key) → Contains (keys_in library) k → is_closure k ≡ true
      → (n : ℕ) × (n < closure_count library) × (k.name ≡ closure_name n)
  pub once : (n : ℕ) → n < closure_count library → bearers library n ≡ 1

-- Each of these functions has a key that none before it has.
abbrev pub AreNew : (before : Library) → Library → Type 0
AreNew before [] = Unit {0}
AreNew before (x ∷ more) = (is_new x.key before ≡ true) × AreNew (with_ended before x) more

-- A library that parsing may leave: its closures are numbered, no two functions have one key, and with those that have
-- begun and not ended they are within the limit.
pub record IsOrderly (limit begun : ℕ) (library : Library) : Type 0 where
  pub numbered : IsNumbered library
  pub keys : AreNew [] library
  pub within : length library + begun ≤ limit

abbrev example_closure : (number : ℕ) → Ended
example_closure number = record {
  key = record { this_type = None; name = closure_name number; params = 0 };
  function = record {
    this_type = None;
    name = closure_name number;
    is_private = false;
    parameters = [];
    comments = [];
    body = braces no_statements nowhere nowhere;
  };
}

-- With the closures 1 and 0 each number below 2 is borne once. With the closure 1 alone the number 0 is not, and the
-- next closure would get the name that is there.
example : (bearers (example_closure 1 ∷ example_closure 0 ∷ []) 0 ≡ 1)
    × (bearers (example_closure 1 ∷ example_closure 0 ∷ []) 1 ≡ 1)
    × (bearers (example_closure 1 ∷ []) 0 ≡ 0)
    × (bearers (example_closure 1 ∷ []) (closure_count (example_closure 1 ∷ [])) ≡ 1)
unfolding last_hex_digits
example = (refl, refl, refl, refl)
