use Rattle.std.proofs.Common.{ap, subst, ◌∙◌, Result, arith}
use Rattle.rl_text.specs.declared.causes.Refusal.{Refusal}
use Rattle.rl_text.specs.Reading.{Gives}
use Rattle.rl_ops.specs.declared.schedule.Schedule.{Schedule}
use Rattle.rl_ops.specs.ScheduleReading.{schedule_at}
use Rattle.rl_ops.proofs.ScheduleLaws.{is_found, schedule-again}
use Rattle.rl_ops.proofs.schedule_reader.read_schedule.Goals as goal

pub returns-clause-found : goal.returns-clause-found
returns-clause-found c = is_found c.args.ranks c.args.bytes.now c.schedule_of.result (omega arith) c.schedule_of.ensures

pub returns-clause-only : goal.returns-clause-only
returns-clause-only c = λ schedule spells. subst (λ (read : Result Schedule Refusal). Gives c.schedule_of.result read) (ap (schedule_at c.args.ranks) spells.1 ∙ schedule-again c.args.ranks schedule (omega arith) spells.0) c.schedule_of.ensures
