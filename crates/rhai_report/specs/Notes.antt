-- What may help where a script is refused.
use Rattle.std.specs.Prelude.{◌≡◌, ◌++◌, ℕ, Option, Some, None, IsSomeAnd, List, MatchOption, [], ◌∷◌, codes, false}
use Rattle.std.specs.Prelude.{map}
use Rattle.std.specs.Prelude.{option_to_list, string_bytes, take}
use Rattle.std.specs.Borrow.{Bor}
use Rattle.std.specs.List.{All, slice_get}
use Rattle.std.specs.Rc.{rc_str_bytes}
use Rattle.rhai_lower.specs.Texts.{Text}
use Rattle.rhai_lower.specs.declared.token.Token.{Token}
use Rattle.rhai_grammar.specs.declared.error.ParseErrorType.{ParseErrorType}
use Rattle.rhai_grammar.specs.declared.error.ParseErrorType.TheVariants as error
use Rattle.rhai_tokenizer.specs.declared.tokens.Span.{Span}
use Rattle.rhai_tokenizer.specs.declared.tokens.Tokens.{Tokens}
use Rattle.rhai_report.specs.Brackets.{closed_text, innermost, note_of, opened, token_of}
use Rattle.rhai_report.specs.Names.{declared_in}
use Rattle.rhai_report.specs.Marks.{Marks, span_in_file, token_at}
use Rattle.rhai_report.specs.Reasons.{symbol}
use Rattle.rhai_report.specs.Similar.{IsMostSimilar, may_be_meant}
use Rattle.rhai_report.specs.declared.declared.Declared.{Declared}
use Rattle.rhai_report.specs.declared.declared.Declared.TheVariants.{Modules, Variables}
use Rattle.rhai_report.specs.declared.report.Note.{Note}
use Rattle.rhai_report.specs.declared.report.Outside.{Outside}
use Rattle.rhai_report.specs.declared.report.Source.{Source}

-- ---- a bracket that is not closed

-- The innermost bracket that is open before the token of this index is one that the missing text closes.
pub record IsOpen (tokens : Tokens) (index : ℕ) (missing : Text) : Type 0 where
  pub at : ℕ
  pub token : Token
  pub span : Span
  pub innermost : innermost (map token_of (take index tokens.entries.items)) ≡ Some at
  pub is : token_at tokens at ≡ Some token
  pub stands : slice_get tokens.spans.items at ≡ Some span
  pub kind : opened token ≡ closed_text missing

-- a note on such a bracket, with the mark of the token that opened it
pub record IsOpening (source : Source) (tokens : Tokens) (index : ℕ) (missing : Text) (note : Note) : Type 0 where
  pub bracket : IsOpen tokens index missing
  pub text : string_bytes note.text ≡ note_of bracket.token
  pub mark : IsSomeAnd note.mark (Marks source.text.now (span_in_file source.start bracket.span))

-- the note on a bracket, if one is open
abbrev pub TellsOpening : Source → Tokens → (index : ℕ) → (missing : Text) → Option Note → Type 0
TellsOpening source tokens index missing note =
    MatchOption note (IsOpen tokens index missing → ⊥) (IsOpening source tokens index missing)

-- ---- a name that is not known

-- a note on the name of these that was meant; it has no place
pub record IsMeaning (name : Text) (names : List Text) (note : Note) : Type 0 where
  pub other : Text
  pub similar : IsMostSimilar name names other
  pub text : string_bytes note.text ≡ codes "did you mean `" ++ (other ++ codes "`?")
  pub mark : note.mark ≡ None

-- the note on a name, if one was meant
abbrev pub TellsMeaning : (name : Text) → List Text → Option Note → Type 0
TellsMeaning name names note =
    MatchOption note (All (λ o. may_be_meant name o ≡ false) names) (IsMeaning name names)

-- the names that may be meant: those that the text declares, and those from outside
abbrev pub known_names : Declared → Tokens → List (Bor Text) → List Text
known_names which tokens outside =
    declared_in which (map token_of tokens.entries.items) ++ map (λ n. n.now) outside

-- ---- other refusals

-- a note of this text without a place; none, if the text is empty
abbrev pub TellsRemark : Text → Option Note → Type 0
TellsRemark [] note = note ≡ None
TellsRemark (c ∷ cs) note = IsSomeAnd note (λ n. (string_bytes n.text ≡ c ∷ cs) × (n.mark ≡ None))

-- what is said of a symbol that is not allowed
abbrev pub said_of : Option (Text × Text) → Text
said_of (Some s) = s.1
said_of None = []

-- ---- the notes

-- what may help for a refusal of this kind, at the token of this index
abbrev pub Helps : Source → Tokens → (index : ℕ) → ParseErrorType → Outside → Option Note → Type 0
Helps source tokens index (error.MissingToken t _) outside note =
    TellsOpening source tokens index (rc_str_bytes t) note
Helps source tokens index (error.VariableUndefined name) outside note =
    TellsMeaning (rc_str_bytes name) (known_names Variables tokens outside.variables.now) note
Helps source tokens index (error.ModuleUndefined name) outside note =
    TellsMeaning (rc_str_bytes name) (known_names Modules tokens outside.modules.now) note
Helps source tokens index kind outside note = TellsRemark (said_of (symbol kind)) note

-- the notes of a refusal: at most one
pub record HasNotes (source : Source) (tokens : Tokens) (index : ℕ) (kind : ParseErrorType) (outside : Outside)
    (notes : List Note) : Type 0
  where
    pub note : Option Note
    pub helps : Helps source tokens index kind outside note
    pub are : notes ≡ option_to_list note
