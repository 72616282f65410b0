-- One turn of the reading of a text, by what its code knows of the piece.
use Rattle.std.proofs.Common.{◌≡◌, ℕ, ◌+◌, ◌-◌, ◌≤◌, Bool, true, false, ◌||◌, List, [], ◌∷◌, Option, Some, None, cond, codes, drop, take, length, reverse, IsUtf8, refl, sym, ap, ◌∙◌, subst, arith, true≢false}
use Rattle.std.proofs.Common.{◌&&◌, ◌==◌}
use Rattle.std.proofs.lemmas.Bool.{eqb-true, or_parts}
use Rattle.std.proofs.lemmas.List.{append-nil, length-take-le, take_rest}
use Rattle.std.specs.Prelude.{IfSome, option_map, slice_index}
use Rattle.std.specs.List.{concat, prefix_len, slice_get}
use mathlib.Core.List.{reverse_aux}
use Rattle.rhai_lower.specs.Entries.{token_may_be_delivered}
use Rattle.rhai_lower.specs.Lexemes.{Lexeme, Sign, lexeme}
use Rattle.rhai_lower.specs.Names.{is_word}
use Rattle.rhai_lower.specs.Texts.{Text, same_text}
use Rattle.rhai_lower.specs.declared.token.Token.{Token}
use Rattle.rhai_lower.specs.declared.token.Token.TheVariants as token
use Rattle.rhai_tokenizer.specs.declared.braces.Brace.{Brace}
use Rattle.rhai_tokenizer.specs.declared.braces.Brace.TheVariants as brace
use Rattle.rhai_tokenizer.specs.declared.class.First.{First}
use Rattle.rhai_tokenizer.specs.declared.class.First.TheVariants as first
use Rattle.rhai_tokenizer.specs.declared.front.Front.{Front}
use Rattle.rhai_tokenizer.specs.declared.lexer.Kind.{Kind}
use Rattle.rhai_tokenizer.specs.declared.lexer.Kind.TheVariants as kind
use Rattle.rhai_tokenizer.specs.declared.limits.Limits.{Limits}
use Rattle.rhai_tokenizer.specs.declared.place.Place.{Place}
use Rattle.rhai_tokenizer.specs.declared.reading.Reading.{Reading}
use Rattle.rhai_tokenizer.specs.declared.table.Fixed.{Fixed}
use Rattle.rhai_tokenizer.specs.declared.table.Fixed.TheVariants as fixed
use Rattle.rhai_tokenizer.specs.declared.table.Meaning.{Meaning}
use Rattle.rhai_tokenizer.specs.declared.table.Meaning.TheVariants.{Plain}
use Rattle.rhai_tokenizer.specs.declared.tokens.Tokens.{Tokens}
use Rattle.rhai_tokenizer.specs.Bytes.{begins, blanks, is_empty}
use Rattle.rhai_tokenizer.specs.Tables.{token_of}
use Rattle.rhai_tokenizer.specs.Cutting.{first_class, next_at, piece_at, number_cut, sign_cut}
use Rattle.rhai_tokenizer.specs.CuttingMeanings.{IsAlone, IsPair, cut_brace, cut_symbol, cut_token, is_sign, meaning_of}
use Rattle.rhai_tokenizer.specs.Meanings.{Found, brace_of_symbol, braces_after, opens_after, operand_then, text_after}
use Rattle.rhai_tokenizer.specs.Places.{past}
use Rattle.rhai_tokenizer.specs.Runs.{run_from}
use Rattle.rhai_tokenizer.specs.Turns.{IsFront, IsIn, IsTurn, Joins, before_of, due, found_of, place_of}
use Rattle.rhai_tokenizer.proofs.FrontLemmas.{IsCut, front_is, is_cut, known_cut, token_found}
use Rattle.rhai_tokenizer.proofs.LeadLemmas.{brace_alone, end_alone}
use Rattle.rhai_tokenizer.proofs.TurnLemmas.{before_after}

-- what the code leaves of the braces and their state, where a piece does this to them
pub record Braces (old new : Reading) (k : Brace) : Type 0 where
  pub in_text : new.in_text ≡ text_after k (reverse old.braces.items)
  pub braces : reverse new.braces.items ≡ braces_after k old.opens (reverse old.braces.items)
  pub opens : new.opens ≡ opens_after k

-- a piece with its front
pub front_turn : (limits : Limits) (old new : Reading) (t : Text) (f : Front)
    → IsFront limits old.in_text old.operand (place_of old) t f
    → Joins old.out new.out old.in_text old.at new.at (found_of f.place f.token)
    → new.operand ≡ operand_then old.operand (found_of f.place f.token) → Braces old new f.brace
    → place_of new ≡ f.after → new.is_hashed ≡ f.is_hash → new.at ≡ old.at + f.len → IsIn new.line new.at
    → IsTurn limits old new t f.len
front_turn limits old new t f is joined operand br place hash at placed = record {
  joined = subst (λ (x : Option Found). Joins old.out new.out old.in_text old.at new.at x) is.token joined;
  len = is.len;
  decides = before_after limits (before_of old) (next_at (before_of old) t) (found_of f.place f.token) f.brace
      new.operand new.in_text new.opens new.braces.items (place_of new) is.token is.brace operand br.in_text br.opens
      br.braces (place ∙ is.after);
  hash = λ e. is.hash (sym hash ∙ e);
  at = at;
  placed = placed;
}

-- a piece that is cut
pub cut_turn : (limits : Limits) (old new : Reading) (t text : Text) (k : Kind) (n : ℕ) (token : Option Token)
    → old.in_text ≡ false → IsCut limits old.operand (place_of old) t k n → text ≡ take n t
    → option_map lexeme token ≡ cut_token limits k old.operand text
    → IfSome token (λ k. token_may_be_delivered k ≡ true)
    → Joins old.out new.out false old.at new.at (found_of (place_of old) token)
    → new.operand ≡ operand_then old.operand (found_of (place_of old) token) → Braces old new (cut_brace k text)
    → place_of new ≡ past (place_of old) text → new.is_hashed ≡ false → new.at ≡ old.at + n
    → IsIn new.line new.at → IsTurn limits old new t n
cut_turn limits old new t text k n token code cut ts ls d joined operand br place hash at placed =
    front_turn limits old new t _
    (subst (λ (x : Bool). IsFront limits x old.operand (place_of old) t (record {
      token = token;
      place = place_of old;
      len = n;
      after = place_of new;
      brace = cut_brace k text;
      is_hash = false;
    })) (sym code)
    (front_is limits false old.operand (place_of old) t _ (piece_at old.operand t) refl (token_found (place_of old) token _ ls
    ∙ sym (cut.means text ts)) cut.len (place ∙ cut.after text ts) (sym (cut.brace text ts)) d
    (λ e. absurd (true≢false (sym e))) (λ p. p)))
    (subst (λ (x : Bool). Joins old.out new.out x old.at new.at (found_of (place_of old) token)) (sym code) joined)
    operand br refl hash at placed

-- a byte is left where a piece is due in code
pub some_due : (i : Bool) (t : Text) → i ≡ false → due i t ≡ true → is_empty t ≡ false
some_due true t e h = absurd (true≢false e)
some_due false [] e h = absurd (true≢false (sym h))
some_due false (c ∷ t) e h = refl

abbrev is_hash : First → Bool
is_hash first.Hash = true
is_hash k = false

-- white space
pub blank_cut : (limits : Limits) (o : Bool) (place : Place) (t bytes : Text) (n : ℕ) → is_empty t ≡ false
    → first.Space ≡ first_class (slice_index t 0) → bytes ≡ t → n ≡ length (concat (run_from blanks 0 bytes))
    → IsCut limits o place t kind.Blank n
blank_cut limits o place [] bytes n some c e is = absurd (true≢false some)
blank_cut limits o place (b ∷ t) bytes n some c e is =
    is_cut limits first.Space o place (b ∷ t) t kind.Blank n refl c refl
    (λ e. absurd (true≢false (sym (ap is_hash e)))) refl
    (ap (λ m. (kind.Blank, m)) (is ∙ ap (λ x. length (concat (run_from blanks 0 x))) e))

-- a word
abbrev word_kind : ℕ → Kind × ℕ
word_kind n = (kind.Word, 1 + n)

pub word_cut : (o : Bool) (place : Place) (t bytes : Text) (n : ℕ) → is_empty t ≡ false
    → first.Letter ≡ first_class (slice_index t 0) → bytes ≡ t
    → n ≡ prefix_len is_word (take (length bytes - 1) (drop 1 bytes)) → (limits : Limits)
    → IsCut limits o place t kind.Word (1 + n)
word_cut o place t bytes n some c e is limits =
    known_cut limits first.Letter o place t bytes kind.Word (1 + n) some c refl
    (λ e. absurd (true≢false (sym (ap is_hash e)))) e (ap word_kind is)

-- a symbol, or a character that begins no token
pub sign_piece : (limits : Limits) (o : Bool) (place : Place) (t bytes : Text) (k : Kind) (n : ℕ) → is_empty t ≡ false
    → first.Other ≡ first_class (slice_index t 0) → bytes ≡ t
    → ◌≡◌ {A = Kind × ℕ} (k, n) (sign_cut (slice_index bytes 0) (take (length bytes - 1) (drop 1 bytes)))
    → IsCut limits o place t k n
sign_piece limits o place t bytes k n some c e is =
    known_cut limits first.Other o place t bytes k n some c refl (λ e. absurd (true≢false (sym (ap is_hash e)))) e is

pub no_limits : Limits
no_limits = record { doc_comments = false; max_string_size = 0 }

-- what a symbol leaves of the braces
pub symbol_braces : (old mid new : Reading) (k : Brace) (text : Text) → mid.braces ≡ old.braces → old.opens ≡ false
    → k ≡ brace_of_symbol text → new.in_text ≡ text_after k (reverse mid.braces.items)
    → reverse new.braces.items ≡ braces_after k false (reverse mid.braces.items) → new.opens ≡ false
    → Braces old new (brace_of_symbol text)
symbol_braces old mid new k text bs os ks i b s = record {
  in_text = i ∙ (ap (λ k. text_after k (reverse mid.braces.items)) ks
      ∙ ap (λ b. text_after (brace_of_symbol text) (reverse b.items)) bs);
  braces = b ∙ (ap (λ k. braces_after k false (reverse mid.braces.items)) ks
      ∙ (ap (λ b. braces_after (brace_of_symbol text) false (reverse b.items)) bs
      ∙ ap (λ o. braces_after (brace_of_symbol text) o (reverse old.braces.items)) (sym os)));
  opens = s ∙ no_opening (same_text text (codes "{") || same_text text (codes "#{")) (same_text text (codes "}"));
}
  where
    no_opening : (a b : Bool) → false ≡ opens_after (cond a brace.Opens (cond b brace.Closes brace.Stays))
    no_opening true b = refl
    no_opening false true = refl
    no_opening false false = refl

-- no token joins
pub joins_none : (out : Tokens) (in_text : Bool) (from to : ℕ) → Joins out out in_text from to None
joins_none out in_text from to = record {
  entries = sym (append-nil _);
  spans = sym (append-nil _);
  delivered = λ d. d;
}

-- an integer
pub number_piece : (limits : Limits) (o : Bool) (place : Place) (t bytes : Text) (k : Kind) (n : ℕ)
    → is_empty t ≡ false → first.Digit ≡ first_class (slice_index t 0) → bytes ≡ t
    → ◌≡◌ {A = Kind × ℕ} (k, n) (number_cut (slice_index bytes 0) (take (length bytes - 1) (drop 1 bytes)))
    → IsCut limits o place t k n
number_piece limits o place t bytes k n some c e is =
    known_cut limits first.Digit o place t bytes k n some c refl (λ e. absurd (true≢false (sym (ap is_hash e)))) e is

-- the bytes of a piece that is cut
pub record Cuts (t bytes : Text) (n : ℕ) : Type 0 where
  pub within : n ≤ length t
  pub front : take n bytes ≡ take n t
  pub len : length (take n bytes) ≡ n

pub cuts : (limits : Limits) (o : Bool) (place : Place) (t bytes : Text) (k : Kind) (n : ℕ)
    → IsCut limits o place t k n → IsUtf8 t → bytes ≡ t → Cuts t bytes n
cuts limits o place t bytes k n cut u e = let (within, rest) = cut.boundary u in record {
  within = within;
  front = ap (take n) e;
  len = length-take-le n bytes (omega (arith, within, ap length e));
}

-- a symbol of one byte that is no sign means the same where an operand begins
pub no_sign : (o : Bool) (m : Meaning) (t : Text) → is_empty t ≡ false → is_sign (slice_index t 0) ≡ false
    → cut_symbol o m (take 1 t) ≡ meaning_of (take 1 t) m
no_sign o m [] some h = absurd (true≢false some)
no_sign o m (c ∷ t) some h =
    let (plus, minus) = or_parts (c == 43) (c == 45) h in
    rw (minus, plus) (by o (meaning_of (c ∷ []) m))
  where
    by : (o : Bool) (l : Lexeme) → cond (o && false) (Sign token.UnaryMinus) (cond (o && false) (Sign token.UnaryPlus) l)
        ≡ l
    by true l = refl
    by false l = refl

-- a symbol of one byte
pub lone_piece : (limits : Limits) (o : Bool) (place : Place) (t : Text) (f : Fixed) → is_empty t ≡ false
    → IsAlone (slice_index t 0) (drop 1 t) f → IsCut limits o place t (kind.Symbol (Plain f)) 1
lone_piece limits o place t f some is =
    sign_piece limits o place t t (kind.Symbol (Plain f)) 1 some is.class refl
    (is.cut ∙ ap (sign_cut (slice_index t 0)) (sym (take_rest t 1)))

-- such a symbol leaves the braces
pub lone_braces : (old new : Reading) (t : Text) → is_empty t ≡ false
    → brace_of_symbol (slice_index t 0 ∷ []) ≡ brace.Stays → new.in_text ≡ false
    → reverse new.braces.items ≡ reverse old.braces.items → new.opens ≡ false
    → Braces old new (brace_of_symbol (take 1 t))
lone_braces old new [] some is i bs o = absurd (true≢false some)
lone_braces old new (c ∷ t) some is i bs o =
    let stays : Braces old new brace.Stays = record { in_text = i; braces = bs; opens = o } in
    subst (λ (k : Brace). Braces old new k) (sym is) stays

-- the front of a text that begins with `{`
pub record Opening (t : Text) : Type 0 where
  pub some : is_empty t ≡ false
  pub alone : IsAlone (slice_index t 0) (drop 1 t) fixed.LeftBrace
  pub opens : brace.Opens ≡ brace_of_symbol (take 1 t)

pub opening : (t : Text) → begins (λ c. c == 123) t ≡ true → Opening t
opening [] h = absurd (true≢false (sym h))
opening (c ∷ t) h =
    let at : Opening (123 ∷ t) = record { some = refl; alone = brace_alone t; opens = refl } in
    subst (λ (c : ℕ). Opening (c ∷ t)) (sym (eqb-true c 123 h)) at

-- the front of a text that begins with `}`
pub record Closing (t : Text) : Type 0 where
  pub some : is_empty t ≡ false
  pub alone : IsAlone (slice_index t 0) (drop 1 t) fixed.RightBrace
  pub closes : brace.Closes ≡ brace_of_symbol (take 1 t)

pub closing : (t : Text) → begins (λ c. c == 125) t ≡ true → Closing t
closing [] h = absurd (true≢false (sym h))
closing (c ∷ t) h =
    let at : Closing (125 ∷ t) = record { some = refl; alone = end_alone t; closes = refl } in
    subst (λ (c : ℕ). Closing (c ∷ t)) (sym (eqb-true c 125 h)) at

-- what the innermost brace says of a text
pub last_text : (xs : List Bool) (b : Bool) → slice_get xs (length xs - 1) ≡ Some b
    → b ≡ text_after brace.Closes (reverse xs)
last_text [] b h = absurd cc
last_text (x ∷ xs) b h =
    let e : length xs ≡ length (x ∷ xs) - 1 = omega arith in
    by x xs [] (ap (slice_get (x ∷ xs)) e ∙ h)
  where
    by : (x : Bool) (xs ys : List Bool) → slice_get (x ∷ xs) (length xs) ≡ Some b
        → b ≡ text_after brace.Closes (reverse_aux (x ∷ xs) ys)
    by x [] ys h = cc
    by x (y ∷ xs) ys h = by y xs (x ∷ ys) h

-- a symbol of two bytes
pub pair_piece : (limits : Limits) (o : Bool) (place : Place) (t : Text) (f : Fixed) → is_empty t ≡ false
    → IsPair (slice_index t 0) (drop 1 t) f → IsCut limits o place t (kind.Symbol (Plain f)) 2
pair_piece limits o place t f some is =
    sign_piece limits o place t t (kind.Symbol (Plain f)) 2 some is.class refl
    (is.cut ∙ ap (sign_cut (slice_index t 0)) (sym (take_rest t 1)))

pub pair_means : (o : Bool) (f : Fixed) (t : Text) → is_empty t ≡ false → IsPair (slice_index t 0) (drop 1 t) f
    → lexeme (token_of f) ≡ cut_symbol o (Plain f) (take 2 t)
pair_means o f [] some is = absurd (true≢false some)
pair_means o f (c ∷ t) some is = rw (is.minus, is.plus) (by o)
  where
    by : (o : Bool) → lexeme (token_of f)
        ≡ cond (o && false) (Sign token.UnaryMinus) (cond (o && false) (Sign token.UnaryPlus) (lexeme (token_of f)))
    by true = refl
    by false = refl

pub pair_braces : (old new : Reading) (t : Text) (f : Fixed) → is_empty t ≡ false
    → IsPair (slice_index t 0) (drop 1 t) f → new.in_text ≡ false
    → reverse new.braces.items ≡ reverse old.braces.items → new.opens ≡ false
    → Braces old new (brace_of_symbol (take 2 t))
pair_braces old new [] f some is i bs o = absurd (true≢false some)
pair_braces old new (c ∷ t) f some is i bs o =
    let stays : Braces old new brace.Stays = record { in_text = i; braces = bs; opens = o } in
    subst (λ (k : Brace). Braces old new k) (sym is.brace) stays

-- what a `{` leaves of the braces
pub block_braces : (old mid new : Reading) (k : Brace) (text : Text) → mid.braces ≡ old.braces → mid.opens ≡ old.opens
    → brace.Opens ≡ k → k ≡ brace_of_symbol text → new.in_text ≡ text_after k (reverse mid.braces.items)
    → reverse new.braces.items ≡ braces_after k mid.opens (reverse mid.braces.items) → new.opens ≡ false
    → Braces old new (brace_of_symbol text)
block_braces old mid new k text bs os is ks i b s =
    let opens : Braces old new k = record {
      in_text = i ∙ ap (λ b. text_after k (reverse b.items)) bs;
      braces = b ∙ (ap (λ b. braces_after k mid.opens (reverse b.items)) bs
          ∙ ap (λ o. braces_after k o (reverse old.braces.items)) os);
      opens = s ∙ ap opens_after is;
    } in
    subst (λ (k : Brace). Braces old new k) ks opens
