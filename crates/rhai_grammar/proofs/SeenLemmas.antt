-- What tokens taken one after the other give and leave.
use Rattle.std.proofs.Common.{◌≡◌, List, [], ◌∷◌, ◌++◌, refl}
use Rattle.rhai_grammar.specs.Prelude.{Tokens, Taken, later, Gives, leads, latest_first}

pub leads_on : (a b : List Taken) (s : Tokens) → leads (a ++ b) s ≡ leads b (leads a s)
leads_on [] b s = refl
leads_on (k ∷ a) b s = leads_on a b (later k.mode s)

pub latest_on : (a b before : List Taken) → latest_first (a ++ b) before ≡ latest_first b (latest_first a before)
latest_on [] b before = refl
latest_on (k ∷ a) b before = latest_on a b (k ∷ before)

pub both : (a b : List Taken) (s : Tokens) → Gives a s → Gives b (leads a s) → Gives (a ++ b) s
both [] b s h k = k
both (i ∷ a) b s h k = (h.0, both a b (later i.mode s) h.1 k)

pub first_part : (a b : List Taken) (s : Tokens) → Gives (a ++ b) s → Gives a s
first_part [] b s h = tt
first_part (i ∷ a) b s h = (h.0, first_part a b (later i.mode s) h.1)

pub last_part : (a b : List Taken) (s : Tokens) → Gives (a ++ b) s → Gives b (leads a s)
last_part [] b s h = h
last_part (i ∷ a) b s h = last_part a b (later i.mode s) h.1
