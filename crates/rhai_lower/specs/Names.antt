-- Names, and the words that the language reserves.
use Rattle.std.specs.Prelude.{◌≡◌, ℕ, Bool, true, false, Option, Some, None, List, [], ◌∷◌, ◌&&◌, ◌||◌, ◌==◌, not}
use Rattle.std.specs.Prelude.{find}
use Rattle.std.specs.Prelude.{codes, if◌then◌else◌, refl}
use Rattle.std.specs.Char.{is_ascii_alphabetic, is_ascii_alphanumeric}
use Rattle.std.specs.List.{list_all, list_any}
use Rattle.rhai_lower.specs.Texts.{Text, same_text}

-- letters, digits and the underscore
abbrev pub is_word : ℕ → Bool
is_word b = is_ascii_alphanumeric b || b == 95

-- the first byte other than an underscore
abbrev pub first_but_underscore : Text → Option ℕ
first_but_underscore t = find (λ b. not (b == 95)) t

abbrev pub begins_with_letter : Option ℕ → Bool
begins_with_letter None = false
begins_with_letter (Some b) = is_ascii_alphabetic b

-- a name: the first byte other than an underscore is a letter
abbrev pub is_identifier : Text → Bool
is_identifier t = list_all is_word t && begins_with_letter (first_but_underscore t)

abbrev pub is_one_of : List Text → Text → Bool
is_one_of words t = list_any (same_text t) words

-- words that may be called, but not as a method
abbrev pub called_words : List Text
called_words = codes "print" ∷ codes "debug" ∷ codes "is_def_var" ∷ codes "is_def_fn" ∷ []

-- words that may be called, also as a method
abbrev pub method_words : List Text
method_words = codes "eval" ∷ codes "Fn" ∷ codes "call" ∷ codes "curry" ∷ codes "type_of" ∷ codes "is_shared" ∷ []

-- whether a text is reserved, may be called, and may be called as a method
abbrev pub reserved_as : Text → Bool × Bool × Bool
reserved_as t =
    if is_one_of method_words t then (true, true, true) else
    if is_one_of called_words t then (true, true, false) else
    if same_text t (codes "this") then (true, false, false) else (false, false, false)

-- a text on the list of reserved words
abbrev pub is_reserved : Text → Bool
is_reserved t = (reserved_as t).0

-- a name that is not reserved
abbrev pub is_function_name : Text → Bool
is_function_name t = is_identifier t && not (is_reserved t)

-- `_a1` is a name, `1a` and `_` are not, and `print` may be called, but not as a method.
example : (is_identifier (codes "_a1") ≡ true) × (is_identifier (codes "1a") ≡ false)
    × (is_identifier (codes "_") ≡ false) × (reserved_as (codes "print") ≡ (true, true, false))
example = (refl, refl, refl, refl)
