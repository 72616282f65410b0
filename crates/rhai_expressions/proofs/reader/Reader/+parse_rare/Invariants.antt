use Rattle.rhai_reading.specs.Running.{need}
use Rattle.rhai_readers.specs.Readers.{operand, state_of}
use Rattle.rhai_expressions.proofs.reader.Reader.+parse_rare.Given as goal

abbrev pub decreases-parse_rare : goal.decreases-parse_rare
decreases-parse_rare g l = need (operand l.self.now.engine.now l.frame.now l.settings) (state_of l.shared.now)
