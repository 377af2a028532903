use Rattle.std.proofs.Common.{ap, subst, ◌∙◌, Result, arith}
use Rattle.rl_text.specs.declared.causes.Refusal.{Refusal}
use Rattle.rl_text.specs.Reading.{Gives}
use Rattle.rl_sketch.specs.declared.sketch.Sketch.{Sketch}
use Rattle.rl_sketch.specs.SketchReading.{sketch_at}
use Rattle.rl_sketch.proofs.SketchLaws.{is_found, sketch-again}
use Rattle.rl_sketch.proofs.sketch_reader.read_sketch.Goals as goal

pub returns-clause-found : goal.returns-clause-found
returns-clause-found c = is_found c.args.ranks c.args.bytes.now c.sketch_of.result c.sketch_of.ensures

pub returns-clause-only : goal.returns-clause-only
returns-clause-only c = λ sketch spells. subst (λ (read : Result Sketch Refusal). Gives c.sketch_of.result read) (ap (sketch_at c.args.ranks) spells.1 ∙ sketch-again c.args.ranks sketch (omega arith) spells.0) c.sketch_of.ensures
