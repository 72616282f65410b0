use Rattle.std.proofs.Common.{◌||◌, ◌∙◌, ap, map, sym, zero-add}
use Rattle.rhai_lower.specs.Texts.{Text}
use Rattle.rhai_base.specs.Index.{listed}
use Rattle.rhai_grammar.specs.Keys.{key_of, has_name, closures}
use Rattle.rhai_base.proofs.KeyLemmas.{keys-shown}
use Rattle.rhai_base.proofs.library_index.LibraryIndex.new.Goals as goal

pub loop-key-init : goal.loop-key-init
loop-key-init c =
    let all = keys-shown c.args.lib.now.entries ∙ ap (map key_of) (sym (c.into_iter-key-iterator.ensures.into_iter_gives ∙ c.keys-key-items.ensures.rest)) in
    record {
      listed_so_far = λ (name : Text). ap (has_name name) all ∙ sym (ap (λ names. listed name names || has_name name (map key_of c.into_iter-key-iterator.result)) c.new-names.ensures.empty);
      counted_so_far = ap closures all ∙ sym (zero-add (closures (map key_of c.into_iter-key-iterator.result)));
    }
