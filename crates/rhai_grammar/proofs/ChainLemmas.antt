-- A tree determines the chain that it nests.
use Rattle.std.proofs.Common.{◌≡◌, Bool, true, false, List, [], ◌∷◌, ◌++◌, refl, ap, ◌∙◌}
use Rattle.rhai_grammar.specs.Prelude.{Node, Position, Bracket, Chain, Dotted, Link, LinkKind, chain_of}
use Rattle.rhai_grammar.specs.Prelude.{is_last, link_node, nest}
use Rattle.rhai_lower.specs.Nodes.{dot, index}

abbrev alone : Node → Chain
alone x = record { root = x; links = [] }

abbrev link : LinkKind → Bool → Position → Node → Link
link kind negated at item = record { kind = kind; negated = negated; at = at; item = item }

-- A link may be the last of a chain: the member after a last dot is not itself a chain.
abbrev EndsIn : Link → Type 0
EndsIn l = l.kind ≡ Dotted → (chain_of l.item).links ≡ []

no_links : (x : Node) → (chain_of x).links ≡ [] → chain_of x ≡ alone x
no_links (dot x y m p) e = absurd cc
no_links (index x y m p) e = absurd cc
no_links _ e = refl

is_last-append : (a : List Link) (l : Link) (b : List Link) → is_last (a ++ (l ∷ b)) ≡ false
is_last-append [] l b = refl
is_last-append (k ∷ a) l b = refl

-- a link that is last
last_link : (k : LinkKind) (m : Bool) (p : Position) (i x : Node) → (k ≡ Dotted → (chain_of i).links ≡ []) → chain_of (link_node (link k m p i) true x i) ≡ record { root = x; links = link k m p i ∷ [] }
last_link Bracket m p i x h = refl
last_link Dotted m p i x h = ap (λ (c : Chain). record { root = x; links = link Dotted m p c.root ∷ c.links }) (no_links i (h refl))

-- a link followed by others
first_link : (k : LinkKind) (m : Bool) (p : Position) (i x y : Node) (ls : List Link) → chain_of y ≡ record { root = i; links = ls } → chain_of (link_node (link k m p i) false x y) ≡ record { root = x; links = link k m p i ∷ ls }
first_link Bracket m p i x y ls e = ap (λ (c : Chain). record { root = x; links = link Bracket m p c.root ∷ c.links }) e
first_link Dotted m p i x y ls e = ap (λ (c : Chain). record { root = x; links = link Dotted m p c.root ∷ c.links }) e

pub chain_of-nest : (x : Node) (a : List Link) (l : Link) → EndsIn l → chain_of (nest x (a ++ l ∷ [])) ≡ record { root = x; links = a ++ l ∷ [] }
chain_of-nest x [] l h = last_link l.kind l.negated l.at l.item x h
chain_of-nest x (k ∷ a) l h =
    ap (λ b. chain_of (link_node k b x (nest k.item (a ++ l ∷ [])))) (is_last-append a l [])
    ∙ first_link k.kind k.negated k.at k.item x (nest k.item (a ++ l ∷ [])) (a ++ l ∷ []) (chain_of-nest k.item a l h)
