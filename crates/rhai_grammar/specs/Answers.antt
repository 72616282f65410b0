-- What an operation of the code on trees returns.
use Rattle.std.specs.Prelude.{◌≡◌, Bool, true, false, Result, Ok, Err, refl}
use Rattle.rhai_grammar.specs.declared.error.ParseError.{ParseError}
use Rattle.rhai_grammar.specs.Causes.{Refusal, refusal_of, is_for_memory}

-- The result is the expected one, with values as the definitions see them, unless memory ran out.
abbrev pub Answers : {X A : Type 0} → (X → A) → Result A Refusal → Result X ParseError → Type 0
Answers view r (Ok x) = r ≡ Ok (view x)
Answers view r (Err e) = is_for_memory e ≡ false → r ≡ Err (refusal_of e)

abbrev example_identity : Bool → Bool
example_identity b = b

-- If `true` is expected, it may be returned.
example : Answers example_identity (Ok true) (Ok true)
example = refl
