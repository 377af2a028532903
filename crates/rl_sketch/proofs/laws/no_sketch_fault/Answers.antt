use Rattle.std.proofs.Common.{ap, ◌∙◌}
use Rattle.rl_sketch.specs.SketchReading.{sketch_at}
use Rattle.rl_sketch.proofs.SketchLaws.{no_fault-value, value-no_fault, sketch-takes, sketch-again}
use Rattle.rl_sketch.proofs.laws.no_sketch_fault.Goals as goal

pub returns-clause-spelled : goal.returns-clause-spelled
returns-clause-spelled c = λ ranks text small. (no_fault-value ranks text, value-no_fault ranks text small)

pub returns-clause-read : goal.returns-clause-read
returns-clause-read c = λ ranks text sketch small. (sketch-takes ranks text sketch, λ s. ap (sketch_at ranks) s.1 ∙ sketch-again ranks sketch small s.0)
