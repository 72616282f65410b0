-- What a token does in the literal of an array or of an object map.
use Rattle.std.specs.Prelude.{◌≡◌, ℕ, ◌+◌, Bool, true, false, ◌||◌, codes, if◌then◌else◌, refl}
use Rattle.rhai_lower.specs.Texts.{Text, same_text}
use Rattle.rhai_lower.specs.Names.{is_identifier}
use Rattle.rhai_lower.specs.Lexemes.{Lexeme, Faulty, Interpolated, Name, Reserved, Sign, String}
use Rattle.rhai_lower.specs.Nodes.{Properties, no_properties, one_property}
use Rattle.rhai_lower.specs.declared.token.Token.{Token}
use Rattle.rhai_lower.specs.declared.token.Token.TheVariants.{EOF, RightBrace, RightBracket, Plus}
use Rattle.rhai_grammar.specs.Causes as cause
use Rattle.rhai_grammar.specs.Causes.{Cause}
use Rattle.rhai_grammar.specs.Contexts.{full}
use Rattle.rhai_grammar.specs.Beginnings.{missing}
use Rattle.rhai_grammar.specs.Delivered.{is_end}
use Rattle.rhai_grammar.specs.declared.role.ItemRole.{ItemRole}
use Rattle.rhai_grammar.specs.declared.role.ItemRole.TheVariants as place

-- ---- arrays

-- where there are this many items already
abbrev pub item_room : (limit count : ℕ) → ItemRole
item_room limit count = if full limit count then place.Nothing else place.Item

abbrev pub sign_item : (limit count : ℕ) → Token → ItemRole
sign_item limit count RightBracket = place.End
sign_item limit count EOF = place.Nothing
sign_item limit count _ = item_room limit count

-- what a token is where an item may begin
abbrev pub item_role : (limit count : ℕ) → Lexeme → ItemRole
item_role limit count (Sign t) = sign_item limit count t
item_role limit count _ = item_room limit count

abbrev pub too_many_items : (limit : ℕ) → Cause
too_many_items limit = cause.LiteralTooLarge (codes "Size of array literal") limit

-- the error for a token that begins no item: the end mark, or an item too many
abbrev pub no_item : (limit : ℕ) → Lexeme → Cause
no_item limit l = if is_end l then missing (codes "]") l else too_many_items limit

-- ---- object maps

abbrev pub property_count : Properties → ℕ
property_count no_properties = 0
property_count (one_property key at value ps) = property_count ps + 1

abbrev pub has_key : Text → Properties → Bool
has_key t no_properties = false
has_key t (one_property key at value ps) = same_text key t || has_key t ps

-- what a token is where a key may begin
pub data KeyRole : Type 0 where
  -- the `}`
  FieldsEnd : KeyRole
  AKey : Text → KeyRole
  -- no key, and the error for that
  NoKey : Cause → KeyRole

abbrev pub no_property : Lexeme → Cause
no_property (Faulty f) = cause.BadInput (cause.Lexer f)
no_property l = cause.PropertyExpected

-- The error for a token that cannot be a key: directly after the `#{` the `}` is missing, after a comma the key.
abbrev pub no_key : (first : Bool) → Lexeme → Cause
no_key first l = if first then missing (codes "}") l else no_property l

abbrev pub sign_key : (first : Bool) → Token → KeyRole
sign_key first RightBrace = FieldsEnd
sign_key first EOF = NoKey (cause.MissingToken (codes "}"))
sign_key first t = NoKey (no_key first (Sign t))

-- A key is a string, or a name unless keys have to be quoted.
abbrev pub key_role : (quoted first : Bool) → Lexeme → KeyRole
key_role quoted first (String t) = AKey t
key_role quoted first (Name t) = if quoted then NoKey cause.PropertyExpected else AKey t
key_role quoted first (Interpolated t) = NoKey cause.PropertyExpected
key_role quoted first (Reserved t) = NoKey (if is_identifier t then cause.Reserved t else no_key first (Reserved t))
key_role quoted first (Sign t) = sign_key first t
key_role quoted first l = NoKey (no_key first l)

abbrev pub too_many_fields : (limit : ℕ) → Cause
too_many_fields limit = cause.LiteralTooLarge (codes "Number of properties in object map literal") limit

-- With a limit of 1, a second item is one too many; `}` ends an object map; `+` is not a key, and in place of the first
-- key it is a missing `}`.
example : (item_role 1 1 (Name (codes "a")) ≡ place.Nothing) × (no_item 1 (Name (codes "a")) ≡ too_many_items 1)
    × (item_role 1 1 (Sign RightBracket) ≡ place.End) × (key_role false true (Sign RightBrace) ≡ FieldsEnd)
    × (key_role false true (Sign Plus) ≡ NoKey (cause.MissingToken (codes "}")))
    × (key_role false false (Sign Plus) ≡ NoKey cause.PropertyExpected)
example = (refl, refl, refl, refl, refl, refl)
