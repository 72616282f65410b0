use Rattle.std.proofs.Common.{◌≡◌, ◌++◌, map}
use Rattle.indexmap.specs.IndexMap.{values}
use Rattle.rhai_base.proofs.fn_lib.functions.Given as goal

abbrev pub invariant-loop-function : goal.invariant-loop-function
invariant-loop-function l = map (λ f. f.value) l.all.items ++ map (λ f. f.value) l.function-iterator ≡ map (λ f. f.value) (values l.lib)
