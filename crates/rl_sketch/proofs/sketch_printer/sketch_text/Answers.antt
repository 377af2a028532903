use Rattle.rl_sketch.proofs.SketchLaws.{is_printed}
use Rattle.rl_sketch.proofs.sketch_printer.sketch_text.Goals as goal

pub returns-clause-again : goal.returns-clause-again
returns-clause-again c = is_printed (λ text. text.items) c.args.sketch.now c.printed.result c.printed.ensures
