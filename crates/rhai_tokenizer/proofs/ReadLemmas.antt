-- A part of the reading of a text: white space, and the piece after it.
use Rattle.std.proofs.Common.{◌≡◌, ℕ, ◌+◌, ◌-◌, ◌<◌, Bool, Option, Some, true, false, List, [], ◌++◌, map, drop, length, IsUtf8}
use Rattle.std.proofs.Common.{refl, sym, ap, ◌∙◌, subst, arith, All, IsTrue}
use Rattle.std.proofs.lemmas.List.{length-drop}
use Rattle.std.proofs.lemmas.List.Elements.{All-nil}
use Rattle.std.specs.Prelude.{IfSome}
use Rattle.std.specs.Str.{IsCharBoundary}
use Rattle.rhai_lower.specs.Entries.{may_be_delivered}
use Rattle.rhai_lower.specs.Texts.{Text}
use Rattle.rhai_lower.specs.declared.stream.Entry.{Entry}
use Rattle.rhai_tokenizer.specs.declared.limits.Limits.{Limits}
use Rattle.rhai_tokenizer.specs.declared.reading.Reading.{Reading}
use Rattle.rhai_tokenizer.specs.declared.tokens.Span.{Span}
use Rattle.rhai_tokenizer.specs.Bytes.{begins_raw}
use Rattle.rhai_tokenizer.specs.Cutting.{next_at, pieces_from}
use Rattle.rhai_tokenizer.specs.Meanings.{after, at_start, brace_of}
use Rattle.rhai_tokenizer.specs.Pieces.{Before}
use Rattle.rhai_tokenizer.specs.Places.{past, start}
use Rattle.rhai_tokenizer.specs.Readings.{item_of, items, spans}
use Rattle.rhai_tokenizer.specs.Turns.{AreDelivered, IsIn, IsQuiet, IsRead, IsReady, IsTurn, before_of, due, left, place_of}
use Rattle.rhai_tokenizer.proofs.TurnLemmas as turn

-- a piece is within the text, and the text may be cut after it
pub turn_within : (limits : Limits) (old new : Reading) (t : Text) (n : ℕ) → IsReady old t
    → IsTurn limits old new t n → IsUtf8 t → IsCharBoundary t n
turn_within limits old new t n ready f u = turn.turn_boundary (before_of old) t n ready.is_due u f.len

-- a piece is read
pub turn_read : (limits : Limits) (old new : Reading) (t more : Text) (n : ℕ) → IsReady old t
    → IsTurn limits old new t n → more ≡ drop n t → IsUtf8 t → IsRead limits old new t more
turn_read limits old new t more n ready f back u =
    let b = before_of old in
    let rest = turn.more_is b t more n f.len back in
    let after = ap (λ x. x.place) f.decides in
    let (within, boundary) = turn_within limits old new t n ready f u in
    let size : length more ≡ length t - n = ap length back ∙ length-drop n t in
    record {
      entries = turn.items_turn limits b (before_of new) t more (next_at b t) (map item_of old.out.entries.items)
          (map item_of new.out.entries.items) _ ready.is_due refl rest f.joined.entries f.decides refl;
      spans = turn.spans_turn limits b (before_of new) t more (next_at b t) old.at new.at old.out.spans.items
          new.out.spans.items _ ready.is_due refl rest f.joined.spans f.decides
          (f.at ∙ ap (λ n. old.at + n) f.len) refl;
      places = turn.place_turn b t more (place_of new) _ ready.is_due after rest refl;
      within = omega (arith, within, size, f.at);
      hashed = λ e. ap begins_raw back ∙ f.hash e;
      placed = f.placed;
      delivered = f.joined.delivered;
      utf8 = λ v. turn.rest_utf8 t more n v (turn_within limits old new t n ready f v) back;
    }

-- less is left
pub turn_falls : (limits : Limits) (old new : Reading) (t more : Text) (n : ℕ) → IsReady old t
    → IsTurn limits old new t n → more ≡ drop n t → left new.in_text more < left old.in_text t
turn_falls limits old new t more n ready f back =
    let b = before_of old in
    turn.falls b t more n (brace_of (next_at b t)) new.in_text ready.is_due f.len back refl
    (ap (λ x. x.in_text) f.decides)

-- nothing is read
pub read_none : (limits : Limits) (r : Reading) (t : Text) → (r.is_hashed ≡ true → begins_raw t ≡ false)
    → IsIn r.line r.at → IsRead limits r r t t
read_none limits r t hashed placed = record {
  entries = refl;
  spans = refl;
  places = refl;
  within = refl;
  hashed = hashed;
  placed = placed;
  delivered = λ d. d;
  utf8 = λ u. u;
}

-- one part is read after another
pub read_then : (limits : Limits) (old mid new : Reading) (t u v : Text) → IsRead limits old mid t u
    → IsRead limits mid new u v → IsRead limits old new t v
read_then limits old mid new t u v f g = record {
  entries = g.entries ∙ f.entries;
  spans = g.spans ∙ f.spans;
  places = g.places ∙ f.places;
  within = g.within ∙ f.within;
  hashed = g.hashed;
  placed = g.placed;
  delivered = λ d. g.delivered (f.delivered d);
  utf8 = λ u. g.utf8 (f.utf8 u);
}

-- the next piece may be read
pub read_ready : (limits : Limits) (old new : Reading) (t more : Text) → IsReady old t → IsRead limits old new t more
    → due new.in_text more ≡ true → IsReady new more
read_ready limits old new t more ready f d = record {
  is_due = d;
  hashed = f.hashed;
  placed = f.placed;
  room = omega (arith, f.within, ready.room);
}

-- ---- where nothing but its first bytes decides the next piece

-- the next piece may be read
pub quiet_ready : (limits : Limits) (old r : Reading) (t more : Text) (b : Bool) → IsReady old t
    → IsRead limits old r t more → IsQuiet r → b ≡ due false more → b ≡ true → IsReady r more
quiet_ready limits old r t more b ready f quiet is h =
    read_ready limits old r t more ready f (ap (λ (i : Bool). due i more) quiet.code ∙ (sym is ∙ h))

-- a piece that is read, if one is
pub some_turn : (old new : Reading) (t : Text) (o : Option ℕ) (n : ℕ) → o ≡ Some n
    → IfSome o (λ n. (limits : Limits) → IsTurn limits old new t n) → (limits : Limits) → IsTurn limits old new t n
some_turn old new t o n is f =
    subst (λ (o : Option ℕ). IfSome o (λ n. (limits : Limits) → IsTurn limits old new t n)) is f

pub quiet_falls : (limits : Limits) (old new : Reading) (t more : Text) (n : ℕ) → IsReady old t
    → IsTurn limits old new t n → more ≡ drop n t → IsQuiet old → IsQuiet new → length more < length t
quiet_falls limits old new t more n ready f back q r =
    let a = turn_falls limits old new t more n ready f back in
    let b = subst (λ (i : Bool). left i more < left old.in_text t) r.code a in
    let c : left false more < left false t = subst (λ (i : Bool). left false more < left i t) q.code b in
    omega (arith, c)

-- what was read of a text from its start
pub record FromStart (limits : Limits) (r : Reading) (t more : Text) : Type 0 where
  pub entries : map item_of r.out.entries.items ++ items limits (before_of r)
      (pieces_from (after limits) 0 (before_of r) more) ≡ items limits at_start (pieces_from (after limits) 0 at_start t)
  pub spans : r.out.spans.items ++ spans limits (before_of r) r.at (pieces_from (after limits) 0 (before_of r) more)
      ≡ spans limits at_start 0 (pieces_from (after limits) 0 at_start t)
  pub places : past (place_of r) more ≡ past start t
  pub delivered : AreDelivered r.out

pub from_start : (limits : Limits) (r₀ r : Reading) (t more : Text) → before_of r₀ ≡ at_start
    → r₀.out.entries.items ≡ [] → r₀.out.spans.items ≡ [] → r₀.at ≡ 0 → IsRead limits r₀ r t more
    → FromStart limits r t more
from_start limits r₀ r t more is no_entries no_spans at f =
    let P : Entry → Type 0 = λ e. IsTrue (may_be_delivered e) in
    let Q : List Entry → Type 0 = λ x. All P x in
    record {
      entries = f.entries ∙ (ap (λ es. map item_of es ++ items limits (before_of r₀)
          (pieces_from (after limits) 0 (before_of r₀) t)) no_entries
          ∙ ap (λ (b : Before). items limits b (pieces_from (after limits) 0 b t)) is);
      spans = f.spans ∙ (ap (λ (ss : List Span). ss ++ spans limits (before_of r₀) r₀.at
          (pieces_from (after limits) 0 (before_of r₀) t)) no_spans
          ∙ (ap (λ n. spans limits (before_of r₀) n (pieces_from (after limits) 0 (before_of r₀) t)) at
          ∙ ap (λ (b : Before). spans limits b 0 (pieces_from (after limits) 0 b t)) is));
      places = f.places ∙ ap (λ (b : Before). past b.place t) is;
      delivered = f.delivered (subst Q (sym no_entries) (All-nil P));
    }
