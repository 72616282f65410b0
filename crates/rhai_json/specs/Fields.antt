-- The JSON of a field. A definition takes the tokens that were written before, and gives them with those of the field
-- behind them.
use Rattle.std.specs.Prelude.{◌≡◌, ℕ, ℤ, Bool, Option, Some, None, List, [], ◌∷◌, ◌++◌, codes, refl}
use Rattle.std.specs.Fmt.{decimal, digits, signed_decimal}
use Rattle.json.specs.Token.{Token, begin_array, begin_object, boolean, end_array, end_object, key, null, number}
use Rattle.json.specs.Token.{string}
use Rattle.rhai_lower.specs.Positions.{column_of, line_of, nowhere, place}
use Rattle.rhai_lower.specs.Texts.{Text}
use Rattle.rhai_lower.specs.declared.position.Position.{Position}
use Rattle.rhai_tokenizer.specs.declared.tokens.Span.{Span}

infixl 10 ◌▷◌
-- what is written, and then what comes next
abbrev pub ◌▷◌ : List Token → (List Token → List Token) → List Token
ts ▷ more = more ts

-- one more token
unfoldable pub put : Token → List Token → List Token
put t ts = ts ++ t ∷ []

unfoldable pub text_field : Text → Text → List Token → List Token
text_field name t ts = ts ▷ put (key name) ▷ put (string t)

unfoldable pub number_field : Text → ℕ → List Token → List Token
number_field name n ts = ts ▷ put (key name) ▷ put (number (decimal n))

unfoldable pub integer_field : Text → ℤ → List Token → List Token
integer_field name n ts = ts ▷ put (key name) ▷ put (number (signed_decimal n))

unfoldable pub flag_field : Text → Bool → List Token → List Token
flag_field name b ts = ts ▷ put (key name) ▷ put (boolean b)

-- a text or a number, or null
unfoldable pub optional_text_field : Text → Option Text → List Token → List Token
optional_text_field name None ts = ts ▷ put (key name) ▷ put null
optional_text_field name (Some t) ts = text_field name t ts

unfoldable pub optional_number_field : Text → Option ℕ → List Token → List Token
optional_number_field name None ts = ts ▷ put (key name) ▷ put null
optional_number_field name (Some n) ts = number_field name n ts

-- a line and a column, or null
abbrev pub place_value : Option ℕ → Option ℕ → List Token → List Token
place_value (Some line) (Some column) ts =
    ts ▷ put begin_object ▷ number_field (codes "line") line ▷ number_field (codes "column") column
    ▷ put end_object
place_value (Some line) None ts = ts ▷ put null
place_value None column ts = ts ▷ put null

unfoldable pub position_field : Text → Position → List Token → List Token
position_field name p ts = ts ▷ put (key name) ▷ place_value (line_of p) (column_of p)

-- bytes from a first one to before another, or null
abbrev pub span_value : Option Span → List Token → List Token
span_value None ts = ts ▷ put null
span_value (Some s) ts =
    ts ▷ put begin_object ▷ number_field (codes "start") s.start ▷ number_field (codes "stop") s.stop
    ▷ put end_object

unfoldable pub span_field : Option Span → List Token → List Token
span_field s ts = ts ▷ put (key (codes "span")) ▷ span_value s

-- the items of a list, each written by this
abbrev pub items : {A : Type 0} → (A → List Token → List Token) → List A → List Token → List Token
items write [] ts = ts
items write (x ∷ xs) ts = items write xs (write x ts)

-- a list of items, each written by this
abbrev pub list_field : {A : Type 0} → Text → (A → List Token → List Token) → List A → List Token
    → List Token
list_field name write xs ts = ts ▷ put (key name) ▷ put begin_array ▷ items write xs ▷ put end_array

unfoldable pub texts_field : Text → List Text → List Token → List Token
texts_field name = list_field name (λ t. put (string t))

unfoldable pub numbers_field : Text → List ℕ → List Token → List Token
numbers_field name = list_field name (λ n. put (number (decimal n)))

-- a name and its position
unfoldable pub ident_fields : Text → Position → List Token → List Token
ident_fields name p ts = ts ▷ text_field (codes "name") name ▷ position_field (codes "position") p

abbrev pub step_value : (Text × Position) → List Token → List Token
step_value s ts = ts ▷ put begin_object ▷ ident_fields s.0 s.1 ▷ put end_object

-- the path before a name, and the offset of its import
unfoldable pub namespace_field : List (Text × Position) → Option ℕ → List Token → List Token
namespace_field path index ts =
    ts ▷ put (key (codes "namespace")) ▷ put begin_object ▷ list_field (codes "path") step_value path
    ▷ optional_number_field (codes "index") index ▷ put end_object

-- the kind and the position of a node, which begin its object
unfoldable pub node_start : Text → Position → List Token → List Token
node_start kind p ts =
    ts ▷ put begin_object ▷ text_field (codes "kind") kind ▷ position_field (codes "position") p

-- `"position":{"line":1,"column":3}`, and `"end":null` for no position.
example : (position_field (codes "position") (place 1 3) []
    ≡ key (codes "position") ∷ begin_object ∷ key (codes "line") ∷ number (codes "1") ∷ key (codes "column")
    ∷ number (codes "3") ∷ end_object ∷ [])
    × (position_field (codes "end") nowhere [] ≡ key (codes "end") ∷ null ∷ [])
unfolding position_field number_field put digits
example = (refl, refl)
