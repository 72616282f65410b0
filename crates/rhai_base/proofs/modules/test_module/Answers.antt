use Rattle.std.proofs.Common.{◌≡◌, ◌∙◌, IfErr, Some, false, ap, subst, sym}
use Rattle.rhai_lower.specs.Nodes.{variable}
use Rattle.rhai_lower.specs.View.{named, view}
use Rattle.rhai_lower.proofs.Views.{view_variable}
use Rattle.rhai_grammar.specs.Causes.{is_for_memory, refusal_of}
use Rattle.rhai_grammar.specs.Modules.{module_fault}
use Rattle.rhai_base.proofs.modules.test_module.Goals as goal

pub returns-in-Variable-clause-refused : goal.returns-in-Variable-clause-refused
returns-in-Variable-clause-refused c = λ context s k.
    let seen = ap view c.in-Variable.is ∙ view_variable c.in-Variable.name c.in-Variable.pos in
    let same = sym (seen ∙ ap (λ v. variable (named v) c.in-Variable.pos) (sym c.deref.ensures)) in
    subst (λ x. IfErr c.test_path.result (λ e. is_for_memory e ≡ false → module_fault context c.args.frame.now.live x ≡ Some (refusal_of e))) same (c.test_path.ensures.refused context s k)
