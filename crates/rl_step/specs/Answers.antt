-- The numbers of the five answers of a run's steps.
use Rattle.std.specs.Prelude.{ℕ, ◌+◌}
use Rattle.rl_step.specs.declared.events.Stepped.{Stepped}
use Rattle.rl_step.specs.declared.events.Stepped.TheVariants.{Moved, Waiting, Lost, Busy, Finished}
use Rattle.rl_step.specs.declared.tallies.Steps.{Steps}

-- before the first step
abbrev pub no_steps : Steps
no_steps = record { moved = 0; waiting = 0; lost = 0; busy = 0; finished = 0 }

-- one more of the answer's kind
abbrev pub counted : Stepped → Steps → Steps
counted Moved s = record s { moved = s.moved + 1 }
counted (Waiting w v) s = record s { waiting = s.waiting + 1 }
counted (Lost guess seen) s = record s { lost = s.lost + 1 }
counted (Busy node holder) s = record s { busy = s.busy + 1 }
counted Finished s = record s { finished = s.finished + 1 }

-- how many steps were made
abbrev pub steps_made : Steps → ℕ
steps_made s = s.moved + s.waiting + s.lost + s.busy + s.finished
