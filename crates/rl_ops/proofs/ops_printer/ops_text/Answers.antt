use Rattle.rl_ops.proofs.PrintLemmas.{is_spelled, is_read}
use Rattle.rl_ops.proofs.ops_printer.ops_text.Goals as goal

pub returns-clause-spells : goal.returns-clause-spells
returns-clause-spells c = is_spelled (λ text. text.items) c.args.ops.now c.printed.result c.printed.ensures

pub returns-clause-again : goal.returns-clause-again
returns-clause-again c = is_read (λ text. text.items) c.args.ops.now c.printed.result c.printed.ensures
