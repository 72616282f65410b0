-- Codes for what is left of a stream; proofs tell such values apart by them. It is no part of what is promised.
use mathlib.Core.Path.{◌∙◌, ap}
use mathlib.Core.Logic.{inl, inr}
use Rattle.std.specs.Prelude.{◌≡◌, ◌⊎◌, Bool, List, [], ◌∷◌, refl}
use Rattle.std.specs.Coded.{Coded, code_by, coded×, coded⊎, coded_bool, coded_list}
use Rattle.rhai_lower.specs.Streams.{Ends, Requests, Stream, Then}
use Rattle.rhai_lower.specs.contracts.position.Position as position
use Rattle.rhai_lower.specs.contracts.token.Token as token
use Rattle.rhai_lower.specs.declared.position.Position.{Position}
use Rattle.rhai_lower.specs.declared.token.Token.{Token}

-- an end, or what a request gives in each mode
abbrev Mark : Type 0
Mark = Position ⊎ ((Token × Position) × (Token × Position))

-- the marks of what is left after a request, and then its own
abbrev marks : Requests → List Mark → List Mark
marks (Ends end) more = inl end ∷ more
marks (Then a b s t) more = marks s (marks t (inr (a, b) ∷ more))

abbrev joined : (Token × Position) × (Token × Position) → List Requests → List Requests
joined asks (t ∷ s ∷ before) = Then asks.0 asks.1 s t ∷ before
joined asks stack = stack

-- what these marks make of what was made before
abbrev made : List Mark → List Requests → List Requests
made [] stack = stack
made (inl end ∷ more) stack = made more (Ends end ∷ stack)
made (inr asks ∷ more) stack = made more (joined asks stack)

made_again : (r : Requests) (more : List Mark) (stack : List Requests)
    → made (marks r more) stack ≡ made more (r ∷ stack)
made_again (Ends end) more stack = refl
made_again (Then a b s t) more stack =
    made_again s (marks t (inr (a, b) ∷ more)) stack ∙ made_again t (inr (a, b) ∷ more) (s ∷ stack)

-- the first of what was made
abbrev first_made : List Requests → Requests → Requests
first_made [] otherwise = otherwise
first_made (r ∷ more) otherwise = r

-- the mark of what is made of nothing, which never comes
abbrev from_marks : Position × List Mark → Requests
from_marks p = first_made (made p.1 []) (Ends p.0)

-- an end of a stream
abbrev some_end : Requests → Position
some_end (Ends end) = end
some_end (Then a b s t) = a.1

abbrev to_marks : Requests → Position × List Mark
to_marks r = (some_end r, marks r [])

pub back : (r : Requests) → from_marks (to_marks r) ≡ r
back r = ap (λ stack. first_made stack (Ends (some_end r))) (made_again r [] [])

abbrev coded_item : Coded (Token × Position)
coded_item = coded× token.the_row.coded position.the_row.coded

abbrev pub requests_code : Coded Requests
requests_code =
    code_by (Position × List Mark)
    (coded× position.the_row.coded (coded_list (coded⊎ position.the_row.coded (coded× coded_item coded_item))))
    to_marks from_marks back

abbrev pub stream_code : Coded Stream
stream_code =
    code_by (Requests × (Bool × Bool)) (coded× requests_code (coded× coded_bool coded_bool))
    (λ s. (s.requests, (s.in_text, s.peeked))) (λ p. record { requests = p.0; in_text = p.1.0; peeked = p.1.1 })
    (λ _. refl)
