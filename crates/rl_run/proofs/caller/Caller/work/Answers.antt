-- The loop ends where no block is open and none is left.
use Rattle.std.proofs.Common.{sym, subst, ap, ◌∙◌}
use Rattle.std.specs.Option.{IsSome}
use Rattle.rl_run.specs.Callers.{IsCaller, IsAtEnd, who}
use Rattle.rl_run.specs.laws.CallerLaws.{ended}
use Rattle.rl_run.proofs.caller.Caller.work.Goals as goal
use Rattle.rl_run.proofs.caller.Caller.work.Goals.{in-None, in-Some+then-not-open_due}

pub returns-clause-caller : goal.returns-clause-caller
returns-clause-caller g c = elim c.match-next.branch [
  | in-None w ↦ let bad = subst IsSome w.in-None.is c.next.ensures.steps in absurd (cc)
  | in-Some+then-not-open_due w ↦ subst (IsCaller g.C.ShardCore.says c.args.shards.now) (sym w.self-is) w.open_due.ensures.caller
]

pub returns-clause-same : goal.returns-clause-same
returns-clause-same g c = elim c.match-next.branch [
  | in-None w ↦ let bad = subst IsSome w.in-None.is c.next.ensures.steps in absurd (cc)
  | in-Some+then-not-open_due w ↦ ap who w.self-is ∙ w.open_due.ensures.same ∙ w.finish_block.ensures.same ∙ c.loop.invariant.3
]

pub returns-clause-all_done : goal.returns-clause-all_done
returns-clause-all_done g c = elim c.match-next.branch [
  | in-None w ↦ let bad = subst IsSome w.in-None.is c.next.ensures.steps in absurd (cc)
  | in-Some+then-not-open_due w ↦
      let rests = w.finish_block.ensures.closed in
      let none = w.open_due.ensures.none w.if-not-open_due.true in
      subst (IsAtEnd g.C.ShardCore.says c.args.shards.now) (sym none.stays ∙ sym w.self-is)
      (ended g.C.ShardCore.says g.met.C.ShardCore.shard_laws c.args.shards.now w.finish_block.new.self w.finish_block.ensures.caller rests (none.none_left rests))
]
