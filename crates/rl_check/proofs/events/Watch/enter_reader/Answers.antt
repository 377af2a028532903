use Rattle.std.proofs.Common.{List, Bool, sym, subst, ◌++◌, ◌∷◌, []}
use Rattle.rl_step.specs.declared.events.Event.TheVariants.{EnterR}
use Rattle.rl_check.specs.Watching.{IsSeen}
use Rattle.rl_check.proofs.WatchLaws.{reads_too, reader_beside}
use Rattle.rl_check.proofs.events.Watch.enter_reader.Goals as goal

pub returns-in-Some : goal.returns-in-Some
returns-in-Some c queues ranks trace there s keep = reader_beside queues ranks trace _ _ _ _ s c.args.rank _ c.in-Some.is keep

pub returns-in-None : goal.returns-in-None
returns-in-None c queues ranks trace there s =
    subst (λ (z : List Bool). IsSeen queues ranks (trace ++ EnterR c.args.rank ∷ []) c.args.self.now.writer z c.args.self.now.budgets.items c.args.self.now.room.items) (sym c.note.ensures)
    (reads_too queues ranks trace _ _ _ _ s c.args.rank there c.in-None.is)
