use Rattle.std.proofs.Common.{ap, ◌∙◌}
use Rattle.rl_ops.specs.ScheduleReading.{schedule_at}
use Rattle.rl_ops.proofs.ScheduleLaws.{no_fault-value, value-no_fault, schedule-takes, schedule-again}
use Rattle.rl_ops.proofs.laws.no_schedule_fault.Goals as goal

pub returns-clause-spelled : goal.returns-clause-spelled
returns-clause-spelled c = λ ranks text small. (no_fault-value ranks text small, value-no_fault ranks text small)

pub returns-clause-read : goal.returns-clause-read
returns-clause-read c = λ ranks text schedule small. (schedule-takes ranks text schedule small, λ s. ap (schedule_at ranks) s.1 ∙ schedule-again ranks schedule small s.0)
