-- The steps of the loop over tokens that may declare names.
use Rattle.std.proofs.Common.{◌≡◌, ◌∙◌, ◌+◌, ◌<◌, ◌≤◌, ℕ, List, [], ◌∷◌, ◌++◌, Option, Some, None, Bor, ap}
use Rattle.std.proofs.Common.{append_assoc, drop}
use Rattle.std.proofs.Common.{get_or, length, map, sym}
use Rattle.std.proofs.lemmas.List.{append-nil, drop_all, drop_more, map-append}
use Rattle.std.specs.Prelude.{option_map, option_to_list}
use Rattle.rhai_lower.specs.Texts.{Text}
use Rattle.rhai_lower.specs.declared.stream.Entry.{Entry}
use Rattle.rhai_lower.specs.declared.token.Token.{Token}
use Rattle.rhai_report.specs.Brackets.{token_of}
use Rattle.rhai_report.specs.Names.{declared_after, declared_by, part_of}
use Rattle.rhai_report.specs.declared.declared.Declared.{Declared}
use Rattle.rhai_report.specs.declared.declared.Part.{Part}

-- the tokens from an entry on
abbrev rest : List Entry → ℕ → List Token
rest entries i = map token_of (drop i entries)

-- What one token declares is behind what those before it declare.
pub declares_more : (which : Declared) (before : List Part) (names all : List Text) (entries : List Entry) (i : ℕ)
    (e : Entry) → i < length entries → e ≡ get_or entries i e
    → names ++ declared_after which before (map token_of (drop i entries)) ≡ all
    → (names ++ declared_by which before e.token)
    ++ declared_after which (part_of e.token ∷ before) (map token_of (drop (i + 1) entries)) ≡ all
unfolding declared_after
declares_more which before names all entries i e l g h =
    let first : rest entries i ≡ e.token ∷ rest entries (i + 1) =
    ap (map token_of) (drop_more entries i e l) ∙ ap (λ x. token_of x ∷ rest entries (i + 1)) (sym g) in
    append_assoc names (declared_by which before e.token)
    (declared_after which (part_of e.token ∷ before) (rest entries (i + 1)))
    ∙ ap (λ ts. names ++ declared_after which before ts) (sym first) ∙ h

-- the names with the one that was found
pub with_found : (names : List (Bor Text)) (found : Option (Bor Text)) (more : List Text)
    → option_to_list (option_map (λ n. n.now) found) ≡ more
    → map (λ n. n.now) (names ++ option_to_list found) ≡ map (λ n. n.now) names ++ more
with_found names None more e = map-append (λ n. n.now) names [] ∙ ap (λ ns. map (λ n. n.now) names ++ ns) e
with_found names (Some x) more e = map-append (λ n. n.now) names (x ∷ []) ∙ ap (λ ns. map (λ n. n.now) names ++ ns) e

-- Where no tokens are left, no names are.
pub declares_all : (which : Declared) (before : List Part) (names all : List Text) (entries : List Entry) (i : ℕ)
    → length entries ≤ i → names ++ declared_after which before (map token_of (drop i entries)) ≡ all → names ≡ all
unfolding declared_after
declares_all which before names all entries i l h =
    sym (append-nil names)
    ∙ ap (λ es. names ++ declared_after which before (map token_of es)) (sym (drop_all i entries l)) ∙ h
