-- What may come after an operand, and how strongly operators bind.
use Rattle.std.specs.Prelude.{◌≡◌, ℕ, Bool, true, false, ◌&&◌, Option, Some, None, nat_lt, not, if◌then◌else◌, refl}
use Rattle.std.specs.Prelude.{◌||◌, ◌==◌}
use Rattle.rhai_lower.specs.Texts.{Text}
use Rattle.rhai_lower.specs.Names.{is_identifier}
use Rattle.rhai_lower.specs.Tokens.{strength_of, binds_right}
use Rattle.rhai_lower.specs.Lexemes.{Lexeme, Reserved, Sign}
use Rattle.rhai_lower.specs.declared.token.Token.{Token}
use Rattle.rhai_lower.specs.declared.token.Token.TheVariants.{Plus, Multiply, Pipe, PowerOf}
use Rattle.rhai_grammar.specs.declared.filter.ExprFilter.{ExprFilter}
use Rattle.rhai_grammar.specs.declared.filter.ExprFilter.TheVariants.{All, AllButPipe}

-- what comes after an operand
pub data Follower : Type 0 where
  -- a binary operator of this strength (its precedence), and whether it is right-associative
  Operator : (strength : ℕ) (right : Bool) → Follower
  -- a reserved symbol, which is not an operator
  Unknown : Text → Follower
  -- anything else, which ends the run
  Other : Follower

abbrev pub operator_follower : Option ℕ → Bool → Follower
operator_follower (Some n) right = Operator n right
operator_follower None right = Other

abbrev pub is_pipe : Token → Bool
is_pipe Pipe = true
is_pipe _ = false

abbrev pub bars_pipe : ExprFilter → Bool
bars_pipe All = false
bars_pipe AllButPipe = true

-- In a case of a `switch`, `|` is no operator: it separates the cases.
abbrev pub sign_follower : ExprFilter → Token → Follower
sign_follower filter t =
    if is_pipe t && bars_pipe filter then Other else operator_follower (strength_of t) (binds_right t)

abbrev pub word_follower : Bool → Text → Follower
word_follower true t = Other
word_follower false t = Unknown t

-- what this token is after an operand
abbrev pub follower_of : ExprFilter → Lexeme → Follower
follower_of filter (Sign t) = sign_follower filter t
follower_of filter (Reserved t) = word_follower (is_identifier t) t
follower_of filter _ = Other

-- a binary operator
abbrev pub is_operator : Follower → Bool
is_operator (Operator n right) = true
is_operator _ = false

-- the strength of an operator, 0 for anything else
abbrev pub strength : Follower → ℕ
strength (Operator n right) = n
strength _ = 0

-- a right-associative operator
abbrev pub is_right : Follower → Bool
is_right (Operator n right) = right
is_right _ = false

-- The left side of an operator has no weaker operator at its top, and that of a right-associative one none that is
-- equally strong.
abbrev pub left_of : Follower → Follower → Bool
left_of op inner =
    if is_right op then nat_lt (strength op) (strength inner) else not (nat_lt (strength inner) (strength op))

-- The right side of an operator has no weaker operator at its top, and that of a left-associative one none that is
-- equally strong.
abbrev pub right_of : Follower → Follower → Bool
right_of op inner =
    if is_right op then not (nat_lt (strength inner) (strength op)) else nat_lt (strength op) (strength inner)

-- an operator of this strength goes on with a run of that one
abbrev pub continues : (parent strength : ℕ) → (right : Bool) → Bool
continues parent strength right = nat_lt parent strength || (parent == strength && right)

-- `*` may be on either side of `+`; `+` may be on the left of `+`, and `**` on the right of `**`, but not the other way
-- round. In a case `|` ends a run.
abbrev example_plus : Follower
example_plus = follower_of All (Sign Plus)

abbrev example_power : Follower
example_power = follower_of All (Sign PowerOf)

example : (left_of example_plus (follower_of All (Sign Multiply)) ≡ true)
    × (right_of example_plus (follower_of All (Sign Multiply)) ≡ true) × (left_of example_plus example_plus ≡ true)
    × (right_of example_plus example_plus ≡ false) × (left_of example_power example_power ≡ false)
    × (right_of example_power example_power ≡ true) × (is_operator (follower_of All (Sign Pipe)) ≡ true)
    × (follower_of AllButPipe (Sign Pipe) ≡ Other)
example = (refl, refl, refl, refl, refl, refl, refl, refl)
