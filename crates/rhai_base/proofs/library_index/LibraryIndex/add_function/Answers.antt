use Rattle.std.proofs.Common.{◌∙◌, ap, sym}
use Rattle.indexmap.proofs.CallerLemmas.{insert_entry-new}
use Rattle.indexmap.specs.IndexSet.{insert_key}
use Rattle.rhai_lower.specs.Texts.{Text}
use Rattle.rhai_grammar.specs.Keys.{key_of, keys_of, has_name, closures}
use Rattle.rhai_base.proofs.IndexLemmas.{same_name, names-more, count-more, keys-more}
use Rattle.rhai_base.proofs.KeyLemmas.{equal_keys, found-key, absent}
use Rattle.rhai_base.proofs.library_index.LibraryIndex.add_function.Goals as goal

pub returns-clause-ok : goal.returns-clause-ok
returns-clause-ok c =
    let new = absent _ (found-key c.args.key c.args.lib.now.entries ∙ c.requires.new) in
    c.in_ok-insert.ensures.entries ∙ insert_entry-new equal_keys c.args.lib.now c.args.key c.args.function new

pub returns-clause-agrees : goal.returns-clause-agrees
returns-clause-agrees c =
    let new = absent _ (found-key c.args.key c.args.lib.now.entries ∙ c.requires.new) in
    let added = c.in_ok-insert.ensures.entries ∙ insert_entry-new equal_keys c.args.lib.now c.args.key c.args.function new in
    let keys = ap keys_of added ∙ keys-more c.args.lib.now.entries c.args.key c.args.function in
    let inserted = c.in_ok-insert-2.ensures.keys ∙ ap (λ ks. insert_key same_name ks c.in_ok-name.name) c.in_ok-reserve.ensures.keys in
    record {
      names = λ (name : Text). names-more name _ _ c.in_ok-name.name (keys_of c.args.lib.now.entries) (key_of c.args.key) inserted c.in_ok-name.ensures.cases (c.requires.agrees.names name) ∙ ap (has_name name) (sym keys);
      closures = count-more _ _ _ (keys_of c.args.lib.now.entries) (key_of c.args.key) c.requires.agrees.closures c.is_closure_key-closure.ensures c.closures_with-more.ensures ∙ ap closures (sym keys);
    }
