-- The turns of the way on behind the given ones are the schedule made complete, and so is its text.
use Rattle.std.proofs.Common.{List, ◌++◌, ap, sym, subst, ◌∙◌}
use Rattle.rl_ops.specs.declared.schedule.Turn.{Turn}
use Rattle.rl_ops.specs.declared.schedule.Schedule.{Schedule}
use Rattle.rl_locks.specs.Kinds.{lock_kind_of}
use Rattle.rl_locks.specs.Urgencies.{urgency_of}
use Rattle.rl_completed.specs.Completing.{Completes}
use Rattle.rl_completed.proofs.CompletingLaws.{complete_ok}
use Rattle.rl_completed.proofs.completing.completed.Goals as goal

-- a schedule with these turns behind its own
abbrev behind : Schedule → List Turn → Schedule
behind given more = record { turns = given.turns ++ more }

pub returns-clause-complete : goal.returns-clause-complete
returns-clause-complete c =
    let text = c.text_within.ensures in
    complete_ok (lock_kind_of c.args.place.now.lock).defined (urgency_of c.args.place.now.lock) c.args.place.now c.args.ops c.args.schedule c.in_ok-whole.whole c.requires.proper.most_ranks
    (subst (λ z. Completes (lock_kind_of c.args.place.now.lock).defined (urgency_of c.args.place.now.lock) c.args.place.now c.args.ops c.args.schedule z) (sym (c.in_ok-whole.ensures ∙ ap (behind c.args.schedule) c.as_slice-2.ensures)) c.in_ok-way.ensures) c.text_within.result text.text text.again
