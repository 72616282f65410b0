-- A string of bytes that stand for themselves, and that each take a column.
use Rattle.std.proofs.Common.{◌≡◌, ℕ, suc, ◌+◌, ◌≤◌, Bool, true, false, cond, not, ◌&&◌, ◌==◌, [], ◌∷◌, ◌++◌, None, Some, length, drop, take, reverse}
use Rattle.std.proofs.Common.{refl, sym, ap, ◌∙◌, subst, arith, true≢false}
use Rattle.std.proofs.lemmas.Bool.{and_parts, eqb-true, not-true}
use Rattle.std.proofs.lemmas.Bool.Decides.{nat_tests}
use Rattle.std.proofs.lemmas.List.{length-append, length-drop, length-take-le}
use Rattle.std.proofs.lemmas.List.Folds.{list_all-append}
use Rattle.std.specs.List.{list_all, prefix_len}
use Rattle.std.specs.Prelude.{slice_index}
use Rattle.rhai_lower.specs.Entries.{token_may_be_delivered}
use Rattle.rhai_lower.specs.Lexemes.{String, lexeme}
use Rattle.rhai_lower.specs.Texts.{Text}
use Rattle.rhai_lower.specs.declared.token.Token.{Token}
use Rattle.rhai_tokenizer.specs.declared.braces.Brace.TheVariants as brace
use Rattle.rhai_tokenizer.specs.declared.class.First.TheVariants as first
use Rattle.rhai_tokenizer.specs.declared.front.Front.{Front}
use Rattle.rhai_tokenizer.specs.declared.limits.Limits.{Limits}
use Rattle.rhai_tokenizer.specs.declared.place.Place.{Place}
use Rattle.rhai_tokenizer.specs.declared.reading.Reading.{Reading}
use Rattle.rhai_tokenizer.specs.declared.strings.Content.{Content}
use Rattle.rhai_tokenizer.specs.Bytes.{begins, begins_with, is_empty}
use Rattle.rhai_tokenizer.specs.Cutting.{first_class, is_text}
use Rattle.rhai_tokenizer.specs.CuttingMeanings.{is_plain}
use Rattle.rhai_tokenizer.specs.CuttingStrings.{ending_at, is_sure, part_at}
use Rattle.rhai_tokenizer.specs.Meanings.{operand_then, within}
use Rattle.rhai_tokenizer.specs.Places.{past}
use Rattle.rhai_tokenizer.specs.Strings.{Closed, Quote, ending_letters}
use Rattle.rhai_tokenizer.specs.StringTurns.{IsContent}
use Rattle.rhai_tokenizer.specs.Turns.{IsFront, IsIn, IsTurn, Joins, found_of, place_of}
use Rattle.rhai_tokenizer.proofs.FirstLemmas.{ClassFacts, class_facts}
use Rattle.rhai_tokenizer.proofs.FrontLemmas.{quoted_is}
use Rattle.rhai_tokenizer.proofs.PositionLemmas.{past-append}
use Rattle.rhai_tokenizer.proofs.StepLemmas.{front_turn}
use Rattle.rhai_tokenizer.proofs.StringTurnLemmas.{turn_ends}

text_sure : (c : ℕ) → is_text c ≡ true → is_sure Quote c ≡ true
text_sure c h = grind (arith, nat_tests)

text_plain : (c : ℕ) → is_text c ≡ true → is_plain c ≡ true
text_plain c h = grind (arith, nat_tests)

-- a run of such bytes up to a mark is all that stands for itself
sure_run : (z : Text) → begins (λ c. c == 34) (drop (prefix_len is_text z) z) ≡ true
    → prefix_len is_text z ≡ prefix_len (is_sure Quote) z
sure_run [] h = refl
sure_run (c ∷ z) h = by (is_text c) refl h (sure_run z)
  where
    by : (b : Bool) → is_text c ≡ b
        → begins (λ c. c == 34) (drop (cond b (1 + prefix_len is_text z) 0) (c ∷ z)) ≡ true
        → (begins (λ c. c == 34) (drop (prefix_len is_text z) z) ≡ true
        → prefix_len is_text z ≡ prefix_len (is_sure Quote) z)
        → cond b (1 + prefix_len is_text z) 0 ≡ cond (is_sure Quote c) (1 + prefix_len (is_sure Quote) z) 0
    by true e h ih =
        let sure = text_sure c e in
        let n : 1 + prefix_len is_text z ≡ suc (prefix_len is_text z) = omega arith in
        let h' : begins (λ c. c == 34) (drop (prefix_len is_text z) z) ≡ true =
        ap (λ k. begins (λ c. c == 34) (drop k (c ∷ z))) (sym n) ∙ h in
        rw sure (ap (λ k. 1 + k) (ih h'))
    by false e h ih = let mark : c ≡ 34 = eqb-true c 34 h in rw mark refl

text_run : (z : Text) → list_all is_plain (take (prefix_len is_text z) z) ≡ true
text_run [] = refl
text_run (c ∷ z) = by (is_text c) refl (text_run z)
  where
    by : (b : Bool) → is_text c ≡ b → list_all is_plain (take (prefix_len is_text z) z) ≡ true
        → list_all is_plain (take (cond b (1 + prefix_len is_text z) 0) (c ∷ z)) ≡ true
    by true e ih =
        let plain = text_plain c e in
        let n : 1 + prefix_len is_text z ≡ suc (prefix_len is_text z) = omega arith in
        rw n (rw plain ih)
    by false e ih = refl

-- the mark that ends the string
pub record Closes (z : Text) (n : ℕ) : Type 0 where
  pub sure : n ≡ prefix_len (is_sure Quote) z
  pub plain : list_all is_plain (take n z) ≡ true
  pub mark : take 1 (drop n z) ≡ 34 ∷ []
  pub ends : ending_at Quote (drop n z) ≡ Closed
  pub none : part_at Quote (drop n z) ≡ None
  pub within : n + 1 ≤ length z

pub closes : (z rest : Text) (n : ℕ) → n ≡ prefix_len is_text z → rest ≡ drop n z
    → (begins (λ c. c == 34) rest && not (begins (λ c. c == 34) (drop 1 rest))) ≡ true → Closes z n
closes z rest n n_is rest_is h =
    let (mark, no_more) = and_parts (begins (λ c. c == 34) rest) (not (begins (λ c. c == 34) (drop 1 rest))) h in
    let mark' : begins (λ c. c == 34) (drop n z) ≡ true = ap (begins (λ c. c == 34)) (sym rest_is) ∙ mark in
    let more : begins (λ c. c == 34) (drop 1 (drop n z)) ≡ false =
    ap (λ x. begins (λ c. c == 34) (drop 1 x)) (sym rest_is) ∙ not-true _ no_more in
    let size = length-drop n z in
    record {
      sure = n_is ∙ sure_run z (ap (λ k. begins (λ c. c == 34) (drop k z)) (sym n_is) ∙ mark');
      plain = ap (λ k. list_all is_plain (take k z)) n_is ∙ text_run z;
      mark = first (drop n z) mark';
      ends = closed (drop n z) mark';
      none = stops (drop n z) mark' more;
      within = omega (arith, size, some (drop n z) mark');
    }
  where
    first : (u : Text) → begins (λ c. c == 34) u ≡ true → take 1 u ≡ 34 ∷ []
    first [] h = absurd (true≢false (sym h))
    first (c ∷ u) h = ap (λ x. x ∷ []) (eqb-true c 34 h)

    closed : (u : Text) → begins (λ c. c == 34) u ≡ true → ending_at Quote u ≡ Closed
    closed [] h = absurd (true≢false (sym h))
    closed (c ∷ u) h = rw h refl

    some : (u : Text) → begins (λ c. c == 34) u ≡ true → 1 ≤ length u
    some [] h = absurd (true≢false (sym h))
    some (c ∷ u) h = omega arith

    stops : (u : Text) → begins (λ c. c == 34) u ≡ true → begins (λ c. c == 34) (drop 1 u) ≡ false
        → part_at Quote u ≡ None
    stops [] h m = refl
    stops (c ∷ u) h m = rw h (rw m refl)

-- what the code knows of it as a string
abbrev pub content : Place → Text → ℕ → Content
content parts z n = record {
  fault = None;
  ending = Closed;
  len = n + 1;
  place = past (past parts (take n z)) (take 1 (drop n z));
}

is_content : (column : ℕ) (parts : Place) (z : Text) (n : ℕ) → Closes z n
    → IsContent Quote column parts z (take n z) (content parts z n)
is_content column parts z n c =
    let size = length-drop n z in
    turn_ends Quote column parts parts (past parts (take n z)) z z (drop n z) (take n z) [] (take n z) (take n z) n 0 1
    None None (content parts z n) c.sure refl refl refl refl (c.none, refl, refl)
    (record {
      ending_is = sym c.ends;
      len = ap (λ e. length (ending_letters Quote e)) (sym c.ends);
      within = omega (arith, size, c.within);
      place_is = refl;
    }) refl (omega arith) refl refl refl (omega arith) (omega arith) refl

-- the mark that begins it
pub quote : (t : Text) → is_empty t ≡ false → first.Quote ≡ first_class (slice_index t 0)
    → begins_with (34 ∷ []) t ≡ true
quote [] some e = absurd (true≢false some)
quote (c ∷ t) some e = let mark = subst (ClassFacts c) (sym e) (class_facts c) in rw mark refl

abbrev pub front : Place → Text → ℕ → Token → Front
front place z n token = record {
  token = Some token;
  place = place;
  len = 1 + (n + 1);
  after = (content (past place (34 ∷ [])) z n).place;
  brace = brace.Stays;
  is_hash = false;
}

pub text_front : (limits : Limits) (o : Bool) (place : Place) (t z : Text) (n : ℕ) (token : Token) → is_empty t ≡ false
    → first.Quote ≡ first_class (slice_index t 0) → z ≡ drop 1 t → Closes z n
    → lexeme token ≡ within limits String (take n z) → token_may_be_delivered token ≡ true
    → IsFront limits false o place t (front place z n token)
text_front limits o place t z n token some class z_is c is d =
    quoted_is limits Quote o place place _ t z (take n z) (content (past place (34 ∷ [])) z n) token (past place (34 ∷ []))
    refl (quote t some class) (λ e. absurd cc) z_is refl (is_content place.column (past place (34 ∷ [])) z n c)
    (ap (λ l. Some (record { token = l; place = place })) is) d refl

pub text_turn : (limits : Limits) (old new : Reading) (t z : Text) (n : ℕ) (token : Token) → old.in_text ≡ false
    → is_empty t ≡ false → first.Quote ≡ first_class (slice_index t 0) → z ≡ drop 1 t → Closes z n
    → lexeme token ≡ within limits String (take n z) → token_may_be_delivered token ≡ true
    → Joins old.out new.out false old.at new.at (found_of (place_of old) (Some token))
    → new.operand ≡ operand_then old.operand (found_of (place_of old) (Some token)) → new.in_text ≡ false
    → reverse new.braces.items ≡ reverse old.braces.items → new.opens ≡ false
    → ((s : Text) → length s ≡ n + 2 → list_all is_plain s ≡ true → place_of new ≡ past (place_of old) s)
    → new.is_hashed ≡ false → new.at ≡ old.at + (n + 2) → IsIn new.line new.at
    → IsTurn limits old new t (n + 2)
text_turn limits old new t z n token code some class z_is c is d joined operand in_text braces opens places hash at
    placed =
    let p = place_of old in
    let s = 34 ∷ (take n z ++ (34 ∷ [])) in
    let taken : length (take n z) ≡ n = length-take-le n z (omega (arith, c.within)) in
    let size : length s ≡ n + 2 = omega (arith, length-append (take n z) (34 ∷ []), taken) in
    let plain : list_all is_plain s ≡ true = list_all-append is_plain (take n z) (34 ∷ [])
    ∙ ap (λ b. b && list_all is_plain (34 ∷ [])) c.plain in
    let after : place_of new ≡ (content (past p (34 ∷ [])) z n).place = places s size plain
    ∙ (past-append (take n z) (past p (34 ∷ [])) (34 ∷ [])
    ∙ ap (past (past (past p (34 ∷ [])) (take n z))) (sym c.mark)) in
    let is_front = text_front limits old.operand p t z n token some class z_is c is d in
    let len : 1 + (n + 1) ≡ n + 2 = omega arith in
    subst (λ (k : ℕ). IsTurn limits old new t k) len (front_turn limits old new t _
    (subst (λ (x : Bool). IsFront limits x old.operand p t (front p z n token)) (sym code) is_front)
    (subst (λ (x : Bool). Joins old.out new.out x old.at new.at (found_of p (Some token))) (sym code) joined) operand
    (record { in_text = in_text; braces = braces; opens = opens }) after hash (at ∙ ap (λ k. old.at + k) (sym len))
    placed)
