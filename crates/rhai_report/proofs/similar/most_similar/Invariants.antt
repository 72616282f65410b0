-- The best is the most similar of the names before.
use Rattle.std.proofs.Common.{map, take}
use Rattle.std.specs.Prelude.{option_map}
use Rattle.rhai_report.proofs.SimilarLemmas.{IsBest}
use Rattle.rhai_report.proofs.similar.most_similar.Given as goal

abbrev pub invariant-loop-other : goal.invariant-loop-other
invariant-loop-other l =
    IsBest l.name (map (λ n. n.now) (take l.other-index l.names)) (option_map (λ n. n.now) l.best) l.least
