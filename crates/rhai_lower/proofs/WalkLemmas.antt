-- How one step changes what a walk has yet to give.
use Rattle.std.proofs.Common.{◌≡◌, ◌∙◌, ℕ, Bool, true, false, List, [], ◌∷◌, ◌++◌, IsOk, OnOk, Option}
use Rattle.std.proofs.Common.{Some, None, Result, Ok, Err, ap, append_assoc, inl, inr, refl, subst, sym}
use Rattle.std.proofs.lemmas.List.{append-nil, reverse-append}
use Rattle.std.specs.List.{flat_map}
use Rattle.std.specs.declared.alloc.AllocError.{AllocError}
use Rattle.rhai_lower.specs.WalkState.{Calls, Gives, optional_part_walk, part_walk, pending_walk}
use Rattle.rhai_lower.specs.Walks.{Left, Visit, Visited, all_left, walk_of}
use Rattle.rhai_lower.specs.declared.walk.Due.{Due}
use Rattle.rhai_lower.specs.declared.walk.Node.{Node}
use Rattle.rhai_lower.specs.declared.walk.Part.{Part}

pub pending_push : (ds : List Due) (d : Due) → pending_walk (ds ++ d ∷ []) ≡ part_walk d.depth d.part ++ pending_walk ds
unfolding pending_walk
pending_push ds d = ap (flat_map (λ d. part_walk d.depth d.part)) (reverse-append ds (d ∷ []))

pub nothing_left : pending_walk [] ≡ []
unfolding pending_walk
nothing_left = refl

pub alone : (vs : List Visit) → vs ++ [] ≡ vs
alone vs = append-nil vs

-- what holds at success holds, since it succeeded
pub succeeded : (r : Result (Unit {0}) AllocError) (P : Type 0) → IsOk r → OnOk r P → P
succeeded (Ok u) P ok p = p
succeeded (Err e) P ok p = absurd cc

-- The last part is taken, and what stands after its first node is put back.
pub first_taken : (before between after : List Due) (d : Due) (v : Visited) (rest : Option Part)
    → before ≡ between ++ d ∷ []
    → part_walk d.depth d.part ≡ walk_of d.depth v ++ optional_part_walk d.depth rest
    → pending_walk after ≡ optional_part_walk d.depth rest ++ pending_walk between
    → pending_walk before ≡ walk_of d.depth v ++ pending_walk after
first_taken before between after d v rest e f g =
    ap pending_walk e ∙ pending_push between d ∙ ap (λ vs. vs ++ pending_walk between) f
    ∙ append_assoc (walk_of d.depth v) (optional_part_walk d.depth rest) (pending_walk between)
    ∙ ap (λ vs. walk_of d.depth v ++ vs) (sym g)

-- The calls from a node on, by the answer at this node.
pub called_on : {F : Type 0} (step : F → ℕ → Node → Bool → F → Type 0) (before after : Left) (o : Option (ℕ × Node))
    (depth : ℕ) (n : Node) (now next : F) (answer all : Bool) (last : F)
    → Gives before (Ok o) after → o ≡ Some (depth, n) → step now depth n answer next → answer ≡ true
    → Calls step next (all_left after) all last → Calls step now (all_left before) all last
called_on step before after o depth n now next answer all last given is s accepts rest =
    let given : Gives before (Ok (Some (depth, n))) after = subst (λ o. Gives before (Ok o) after) is given in
    let s : step now depth n true next = subst (λ b. step now depth n b next) accepts s in
    subst (λ vs. Calls step now vs all last) (sym given.0) (n, refl, inl (next, s, rest))

pub stopped : {F : Type 0} (step : F → ℕ → Node → Bool → F → Type 0) (before after : Left) (o : Option (ℕ × Node))
    (depth : ℕ) (n : Node) (now last : F) (answer : Bool)
    → Gives before (Ok o) after → o ≡ Some (depth, n) → step now depth n answer last → answer ≡ false
    → Calls step now (all_left before) false last
stopped step before after o depth n now last answer given is s refuses =
    let given : Gives before (Ok (Some (depth, n))) after = subst (λ o. Gives before (Ok o) after) is given in
    let s : step now depth n false last = subst (λ b. step now depth n b last) refuses s in
    subst (λ vs. Calls step now vs false last) (sym given.0) (n, refl, inr (s, refl))

pub ended : {F : Type 0} (step : F → ℕ → Node → Bool → F → Type 0) (before after : Left) (o : Option (ℕ × Node))
    (now : F) → Gives before (Ok o) after → o ≡ None → Calls step now (all_left before) true now
ended step before after o now given is =
    let given : Gives before (Ok None) after = subst (λ o. Gives before (Ok o) after) is given in
    subst (λ vs. Calls step now vs true now) (sym given.0) (refl, refl)
