use Rattle.std.proofs.Common.{List, Bool, sym, subst, ◌++◌, ◌∷◌, []}
use Rattle.rl_step.specs.declared.events.Event.TheVariants.{LeaveR}
use Rattle.rl_check.specs.Watching.{IsSeen}
use Rattle.rl_check.proofs.WatchLaws.{reads_no_more}
use Rattle.rl_check.proofs.events.Watch.leave_reader.Goals as goal

pub returns : goal.returns
returns c queues ranks trace there s =
    subst (λ (z : List Bool). IsSeen queues ranks (trace ++ LeaveR c.args.rank ∷ []) c.args.self.now.writer z c.args.self.now.budgets.items c.args.self.now.room.items) (sym c.note.ensures)
    (reads_no_more queues ranks trace _ _ _ _ s c.args.rank)
