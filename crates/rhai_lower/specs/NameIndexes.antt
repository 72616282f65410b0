-- What an index of names has to agree with.
use Rattle.std.specs.Prelude.{◌≡◌, ℕ, List, [], ◌∷◌, ◌++◌, Option, None, Some, Box}
use Rattle.std.specs.Rc.{rc_str_bytes}
use Rattle.std.specs.declared.rc.RcStr.{RcStr}
use Rattle.std.specs.declared.alloc.Global.{Global}
use Rattle.indexmap.specs.IndexMap.{IndexMap, get_by}
use Rattle.rhai_lower.specs.Texts.{Text, same_text}
use Rattle.rhai_lower.specs.LatestNames.{latest_name}
use Rattle.rhai_lower.specs.declared.name_index.NameIndex.{NameIndex}

-- the place that a map has for a name
abbrev pub found_in : {S : Type 0} → IndexMap (RcStr Global) ℕ S → Text → Option ℕ
found_in places name = get_by (λ k. same_text name (rc_str_bytes k)) places

-- for each of these names the latest before it that is the same, among those that stand before all and these
abbrev pub earlier_after : List Text → List Text → List (Option ℕ)
earlier_after before [] = []
earlier_after before (n ∷ later) = latest_name n before ∷ earlier_after (before ++ n ∷ []) later

-- An index of these names finds the latest of each, and knows for each name the latest before it that is the same.
pub record Indexes (index : NameIndex) (names : List Text) : Type 0 where
  pub found : (name : Text) → found_in index.latest name ≡ latest_name name names
  pub earlier : index.previous.items ≡ earlier_after [] names

-- an index of these names, where there is an index
abbrev pub IsIndexed : Option (Box NameIndex Global) → List Text → Type 0
IsIndexed None names = Unit {0}
IsIndexed (Some index) names = Indexes index.value names
