use Rattle.rl_run.proofs.closing.close_one.Goals as goal

pub close-requires-clause-seats : goal.close-requires-clause-seats
close-requires-clause-seats g c = λ r s e. let p = c.requires.column r s e in (p.0, p.1)

pub close-requires-clause-closed : goal.close-requires-clause-closed
close-requires-clause-closed g c = λ r s e. (c.requires.column r s e).2
