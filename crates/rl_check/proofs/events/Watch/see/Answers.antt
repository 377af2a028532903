use Rattle.std.proofs.Common.{true, sym, subst}
use Rattle.rl_step.specs.declared.events.Event.{Event}
use Rattle.rl_check.specs.Watching.{StepsOn}
use Rattle.rl_check.proofs.WatchLaws.{joins_in, announces}
use Rattle.rl_check.proofs.events.Watch.see.Goals as goal

pub returns-in-Settle : goal.returns-in-Settle
returns-in-Settle c = subst (λ (e : Event). StepsOn c.args.self.now c.settle.new.self e true) (sym c.in-Settle.is) c.settle.ensures

pub returns-in-LeaveW : goal.returns-in-LeaveW
returns-in-LeaveW c = subst (λ (e : Event). StepsOn c.args.self.now c.leave_writer.new.self e true) (sym c.in-LeaveW.is) c.leave_writer.ensures

pub returns-in-LeaveR : goal.returns-in-LeaveR
returns-in-LeaveR c = subst (λ (e : Event). StepsOn c.args.self.now c.leave_reader.new.self e true) (sym c.in-LeaveR.is) c.leave_reader.ensures

pub returns-in-Join : goal.returns-in-Join
returns-in-Join c =
    subst (λ (e : Event). StepsOn c.args.self.now c.args.self.now e true) (sym c.in-Join.is) (λ queues ranks trace there s. joins_in queues ranks trace _ _ _ _ s c.in-Join.queue c.in-Join.member)

pub returns-in-Announce : goal.returns-in-Announce
returns-in-Announce c =
    subst (λ (e : Event). StepsOn c.args.self.now c.args.self.now e true) (sym c.in-Announce.is) (λ queues ranks trace there s. announces queues ranks trace _ _ _ _ s c.in-Announce.cohort)

pub returns-in-Touch : goal.returns-in-Touch
returns-in-Touch c = subst (λ (e : Event). StepsOn c.args.self.now c.args.self.now e true) (sym c.in-Touch.is) (λ queues ranks trace there s. absurd there)
