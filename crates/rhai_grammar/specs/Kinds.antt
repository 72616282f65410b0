-- Tests on trees: what values a node cannot have, and constants.
use Rattle.std.specs.Prelude.{◌≡◌, pos, Bool, true, false, ◌&&◌, ◌++◌, Option, Some, None, codes, refl}
use Rattle.rhai_lower.specs.Texts.{Text}
use Rattle.rhai_lower.specs.Positions.{place}
use Rattle.rhai_lower.specs.Nodes.{Node, Nodes, Properties, unit, boolean, integer, character, string, interpolated}
use Rattle.rhai_lower.specs.Nodes.{array, object_map, pointer, conjunction, disjunction, no_nodes, one_node}
use Rattle.rhai_lower.specs.Nodes.{no_properties, one_property}

-- The kind of a node that cannot be a boolean.
abbrev pub not_boolean : Node → Option Text
not_boolean (unit p) = Some (codes "()")
not_boolean (pointer name parameters p) = Some (codes "Fn")
not_boolean (integer n p) = Some (codes "a number")
not_boolean (character c p) = Some (codes "a character")
not_boolean (string t p) = Some (codes "a string")
not_boolean (interpolated ns p) = Some (codes "a string")
not_boolean (array ns p) = Some (codes "an array")
not_boolean (object_map ps p) = Some (codes "an object map")
not_boolean _ = None

-- The kind of a node that `for` cannot iterate over.
abbrev pub not_iterable : Node → Option Text
not_iterable (unit p) = Some (codes "()")
not_iterable (boolean b p) = Some (codes "a boolean")
not_iterable (integer n p) = Some (codes "a number")
not_iterable (character c p) = Some (codes "a character")
not_iterable (object_map ps p) = Some (codes "an object map")
not_iterable _ = None

-- ---- which index is allowed in the first bracket after an operand

-- which index an operand takes: an object map takes strings; an array, a string or an integer takes numbers; for
-- anything else it is unknown
pub data Indexed : Type 0 where
  Keyed : Indexed
  Counted : Indexed
  Unknown : Indexed

-- which index the value of a node takes
abbrev pub indexed : Node → Indexed
indexed (object_map ps p) = Keyed
indexed (integer n p) = Counted
indexed (array ns p) = Counted
indexed (string t p) = Counted
indexed (interpolated ns p) = Counted
indexed _ = Unknown

-- what an index is: a number, a string, of another kind with this name, or of unknown kind
pub data IndexKind : Type 0 where
  Number : IndexKind
  Words : IndexKind
  Never : Text → IndexKind
  Anything : IndexKind

-- the kind of a node as an index
abbrev pub index_kind : Node → IndexKind
index_kind (integer n p) = Number
index_kind (string t p) = Words
index_kind (interpolated ns p) = Words
index_kind (character c p) = Never (codes "a character")
index_kind (unit p) = Never (codes "()")
index_kind (boolean b p) = Never (codes "a boolean")
index_kind (conjunction ns p) = Never (codes "a boolean")
index_kind (disjunction ns p) = Never (codes "a boolean")
index_kind _ = Anything

-- why an operand does not take an index of this kind; none if it does
abbrev pub kind_fault : Indexed → IndexKind → Option Text
kind_fault Keyed Number = Some (codes "Object map expects string index, not a number")
kind_fault Keyed Words = None
kind_fault Keyed (Never kind) = Some (codes "Object map expects string index, not " ++ kind)
kind_fault Keyed Anything = None
kind_fault Counted Number = None
kind_fault Counted Words = Some (codes "Array, string or bit-field expects numeric index, not a string")
kind_fault Counted (Never kind) = Some (codes "Array, string or bit-field expects integer index, not " ++ kind)
kind_fault Counted Anything = None
kind_fault Unknown kind = None

-- Why an index is not allowed in the first bracket after an operand.
abbrev pub index_fault : (root key : Node) → Option Text
index_fault root key = kind_fault (indexed root) (index_kind key)

-- ---- constants

-- A constant: a literal without parts, or an array or object map of constants.
abbrev mutual
  pub is_constant : Node → Bool
  is_constant (unit p) = true
  is_constant (boolean b p) = true
  is_constant (integer n p) = true
  is_constant (character c p) = true
  is_constant (string t p) = true
  is_constant (pointer name parameters p) = true
  is_constant (array ns p) = are_constant ns
  is_constant (object_map ps p) = have_constants ps
  is_constant _ = false

  pub are_constant : Nodes → Bool
  are_constant no_nodes = true
  are_constant (one_node n ns) = is_constant n && are_constant ns

  pub have_constants : Properties → Bool
  have_constants no_properties = true
  have_constants (one_property t p n ps) = is_constant n && have_constants ps

-- `5`, and `["a"]`, an array of one string
abbrev example_five : Node
example_five = integer (pos 5) (place 1 1)

abbrev example_array : Node
example_array = array (one_node (string (codes "a") (place 1 2)) no_nodes) (place 1 1)

example : (not_boolean example_array ≡ Some (codes "an array")) × (not_iterable example_array ≡ None)
    × (index_fault example_array example_five ≡ None) × (index_fault example_five example_array ≡ None)
    × (index_fault example_array (unit (place 1 1))
    ≡ Some (codes "Array, string or bit-field expects integer index, not ()")) × (is_constant example_array ≡ true)
example = (refl, refl, refl, refl, refl, refl)
