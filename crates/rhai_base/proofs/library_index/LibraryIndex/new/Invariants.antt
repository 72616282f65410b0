use Rattle.std.proofs.Common.{◌≡◌, ◌+◌, ◌||◌, map}
use Rattle.rhai_lower.specs.Texts.{Text}
use Rattle.rhai_base.specs.Index.{listed}
use Rattle.rhai_grammar.specs.Keys.{key_of, keys_of, has_name, closures}
use Rattle.rhai_base.proofs.library_index.LibraryIndex.new.Given as goal

abbrev pub invariant-loop-key : goal.invariant-loop-key
invariant-loop-key l = record {
  listed_so_far : (name : Text) → has_name name (keys_of l.lib.entries) ≡ (listed name l.names.keys || has_name name (map key_of l.key-iterator));
  counted_so_far : closures (keys_of l.lib.entries) ≡ l.closures + closures (map key_of l.key-iterator);
}
