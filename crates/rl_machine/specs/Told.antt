-- What an answer tells of a rank, in short.
use Rattle.rl_step.specs.declared.events.Stepped.{Stepped}
use Rattle.rl_step.specs.declared.events.Stepped.TheVariants as answer
use Rattle.rl_machine.specs.declared.step_end.StepOutcome.{StepOutcome}
use Rattle.rl_machine.specs.declared.step_end.StepOutcome.TheVariants.{GotOn, HeldOff, Waits, Finished}

abbrev pub told_by : Stepped → StepOutcome
told_by answer.Moved = GotOn
told_by (answer.Waiting word value) = Waits
told_by (answer.Lost guess seen) = GotOn
told_by (answer.Busy node holder) = HeldOff node
told_by answer.Finished = Finished
