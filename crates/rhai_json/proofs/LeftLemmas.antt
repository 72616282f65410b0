-- How one piece changes what is yet to be written.
use Rattle.std.proofs.Common.{◌≡◌, ◌∙◌, ◌+◌, ◌<◌, List, [], ◌∷◌, ◌++◌, ap, arith, map}
use Rattle.std.proofs.Common.{refl, reverse, sym}
use Rattle.std.proofs.lemmas.List.{map-append, reverse-append}
use Rattle.std.specs.Prelude.{codes}
use Rattle.json.specs.Token.{Token, end_object}
use Rattle.rhai_lower.specs.Nodes.{Node, Properties, object_map}
use Rattle.rhai_lower.specs.declared.position.Position.{Position}
use Rattle.rhai_json.specs.Fields.{put}
use Rattle.rhai_json.specs.Left.{Piece, all_json, closing, list_of, piece_json, piece_of, pieces_of, properties}
use Rattle.rhai_json.specs.Left.{weight, weights}
use Rattle.rhai_json.specs.Trees.{begun, list_start, node_json, properties_json}
use Rattle.rhai_json.specs.declared.printer.Part.{Part}

pub pushed : (ps : List Part) (p : Part) → pieces_of (ps ++ p ∷ []) ≡ piece_of p ∷ pieces_of ps
unfolding pieces_of
pushed ps p = ap reverse (map-append piece_of ps (p ∷ [])) ∙ reverse-append (map piece_of ps) (piece_of p ∷ [])

pub none_left : pieces_of [] ≡ []
unfolding pieces_of
none_left = refl

-- what is written with all that is left is the same where the first piece is written next
first_written : (p : Piece) (ps : List Piece) (ts : List Token)
    → all_json (p ∷ ps) ts ≡ all_json ps (piece_json p ts)
first_written p ps ts = refl

first_weight : (p : Piece) (ps : List Piece) → weights (p ∷ ps) ≡ weight p + weights ps
first_weight p ps = refl

pub same_left : (before between after : List Part) (p : Part) (old new : List Token) → before ≡ between ++ p ∷ []
    → all_json (pieces_of after) new ≡ all_json (pieces_of between) (piece_json (piece_of p) old)
    → all_json (pieces_of after) new ≡ all_json (pieces_of before) old
same_left before between after p old new e f =
    f ∙ sym (first_written (piece_of p) (pieces_of between) old)
    ∙ sym (ap (λ ps. all_json ps old) (ap pieces_of e ∙ pushed between p))

pub less_left : (before between after : List Part) (p : Part) → before ≡ between ++ p ∷ []
    → weights (pieces_of after) < weight (piece_of p) + weights (pieces_of between)
    → weights (pieces_of after) < weights (pieces_of before)
less_left before between after p e f =
    let a = ap weights (ap pieces_of e ∙ pushed between p) in
    let b = first_weight (piece_of p) (pieces_of between) in
    omega arith

-- Where nothing is left of one piece that was due alone, it is written.
pub all_written : (left due before : List Piece) (p : Piece) (out now old : List Token) → left ≡ []
    → before ≡ [] → due ≡ p ∷ before → now ≡ old → all_json left out ≡ all_json due now
    → out ≡ piece_json p old
all_written left due before p out now old l b d n e =
    sym (ap (λ ps. all_json ps out) l) ∙ e ∙ ap (λ ps. all_json ps now) (d ∙ ap (λ ps. p ∷ ps) b)
    ∙ ap (piece_json p) n

-- An object map that is begun is whole once its properties and its end are written.
pub map_written : (x : Node) (at : Position) (ps qs : Properties) (old mid new : List Piece) (ts : List Token)
    → x ≡ object_map ps at → qs ≡ ps → mid ≡ closing ∷ old
    → new ≡ list_of (codes "properties") ∷ properties qs ∷ mid
    → all_json new (begun x ts) ≡ all_json old (node_json x ts)
unfolding node_json
map_written x at ps qs old mid new ts e q m n =
    ap (λ l. all_json l (begun x ts)) n
    ∙ ap (λ l. all_json (list_of (codes "properties") ∷ properties qs ∷ l) (begun x ts)) m
    ∙ ap (λ r. all_json old (put end_object (properties_json r (list_start (codes "properties") (begun x ts))))) q
    ∙ ap (λ y. all_json old (put end_object (properties_json ps (list_start (codes "properties") (begun y ts))))) e
    ∙ sym (ap (λ y. all_json old (node_json y ts)) e)
