-- The constants are those of the settings.
use Rattle.std.proofs.Common.{refl, subst, sym}
use Rattle.rhai_c.specs.Answers.{ReadsAs}
use Rattle.rhai_c.specs.declared.scripts.Kind.TheVariants.{Expression, Script}
use Rattle.rhai_c.proofs.scripts.read.Goals as goal

pub returns-in-Script-clause-reads : goal.returns-in-Script-clause-reads
returns-in-Script-clause-reads c =
    let reads : ReadsAs Script c.args.settings.now c.args.text.now c.compile_with.result =
    record { constants = _; same = refl; reads = c.compile_with.ensures.reads } in
    subst (λ k. ReadsAs k c.args.settings.now c.args.text.now c.compile_with.result) (sym c.in-Script.is) reads

pub returns-in-Expression-clause-reads : goal.returns-in-Expression-clause-reads
returns-in-Expression-clause-reads c =
    let reads : ReadsAs Expression c.args.settings.now c.args.text.now c.compile_expression_with.result =
    record { constants = _; same = refl; reads = c.compile_expression_with.ensures.reads } in
    subst (λ k. ReadsAs k c.args.settings.now c.args.text.now c.compile_expression_with.result)
    (sym c.in-Expression.is) reads
