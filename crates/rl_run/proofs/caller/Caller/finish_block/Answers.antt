-- The seat steps on until no block of it is open; the caller stays one.
use Rattle.std.proofs.Common.{◌≡◌, slice_get, Some, ap, sym, subst, ◌∙◌}
use Rattle.std.proofs.lemmas.Option.{slice_get-get_or}
use Rattle.std.specs.Option.{IsSome}
use Rattle.rl_shard.specs.Shards.{IsClosed}
use Rattle.rl_run.specs.Callers.{IsCaller, AllClosed, who}
use Rattle.rl_run.specs.laws.CallerLaws.{at_there, at_seat, first_with, seat_with, steps_with, closed_with}
use Rattle.rl_run.proofs.caller.Caller.finish_block.Goals as goal
use Rattle.rl_run.proofs.caller.Caller.finish_block.Goals.{After-index-shards-at, in-None, in-Some+in-Finished}
use Rattle.rl_run.proofs.caller.Caller.finish_block.Given.{Over}

-- the shard where the last block was opened, and the seat there
has_shard : (g : Over) (c : After-index-shards-at g) → slice_get c.args.shards.now c.args.self.now.at ≡ Some c.index-shards-at.result
has_shard g c = slice_get-get_or c.args.shards.now c.args.self.now.at c.index-shards-at.result (at_there g.C.ShardCore.says g.met.C.ShardCore.shard_laws c.args.shards.now c.args.self.now c.requires.caller) ∙ ap Some (sym c.index-shards-at.is)

has_seat : (g : Over) (c : After-index-shards-at g) → slice_get c.args.self.now.seats.items c.args.self.now.at ≡ Some c.index_mut-seat.result.now
has_seat g c = slice_get-get_or c.args.self.now.seats.items c.args.self.now.at c.index_mut-seat.result.now (at_seat g.C.ShardCore.says g.met.C.ShardCore.shard_laws c.args.shards.now c.args.self.now c.requires.caller) ∙ ap Some (sym c.index_mut-seat.ensures.value)

pub loop-init : goal.loop-init
loop-init g c =
    let d = (goal.at.loop-init g c).After-index-shards-at in
    (first_with g.C.ShardCore.says g.met.C.ShardCore.shard_laws c.args.shards.now c.args.self.now c.requires.caller c.index-shards-at.result c.index_mut-seat.result.now (has_shard g d) (has_seat g d), c.new-events.ensures)

pub step_with-requires-clause-seat : goal.step_with-requires-clause-seat
step_with-requires-clause-seat g c =
    let d = (goal.at.step_with-requires-clause-seat g c).After-index-shards-at in
    seat_with g.C.ShardCore.says g.met.C.ShardCore.shard_laws c.args.shards.now c.args.self.now c.requires.caller c.index-shards-at.result c.index_mut-seat.result.now (has_shard g d) (has_seat g d) c.loop.seat c.loop.invariant.0

pub step_with-requires-clause-none : goal.step_with-requires-clause-none
step_with-requires-clause-none g c = c.loop.invariant.1

pub loop-preserved : goal.loop-preserved
loop-preserved g c =
    let d = (goal.at.loop-preserved g c).After-index-shards-at in (
      steps_with g.C.ShardCore.says g.met.C.ShardCore.shard_laws c.args.shards.now c.args.self.now c.requires.caller c.index-shards-at.result c.index_mut-seat.result.now (has_shard g d) (has_seat g d)
          c.loop.seat c.step_with.new.self c.loop.invariant.0 c.step_with.ensures.step.seat c.step_with.ensures.step.rank c.step_with.ensures.step.turned,
      c.step_with.ensures.none,
    )

pub loop-preserved-then-not-is_calm : goal.loop-preserved-then-not-is_calm
loop-preserved-then-not-is_calm g c =
    let d = (goal.at.loop-preserved-then-not-is_calm g c).After-index-shards-at in (
      steps_with g.C.ShardCore.says g.met.C.ShardCore.shard_laws c.args.shards.now c.args.self.now c.requires.caller c.index-shards-at.result c.index_mut-seat.result.now (has_shard g d) (has_seat g d)
          c.loop.seat c.step_with.new.self c.loop.invariant.0 c.step_with.ensures.step.seat c.step_with.ensures.step.rank c.step_with.ensures.step.turned,
      c.step_with.ensures.none,
    )

pub returns-clause-caller : goal.returns-clause-caller
returns-clause-caller g c =
    let d = (goal.at.returns-clause-caller g c).After-index-shards-at in
    elim c.match-next.branch [
      | in-None w ↦ let bad = subst IsSome w.in-None.is c.next.ensures.steps in absurd (cc)
      | in-Some+in-Finished w ↦ subst (IsCaller g.C.ShardCore.says c.args.shards.now) (sym w.self-is)
          (steps_with g.C.ShardCore.says g.met.C.ShardCore.shard_laws c.args.shards.now c.args.self.now c.requires.caller c.index-shards-at.result c.index_mut-seat.result.now (has_shard g d) (has_seat g d)
          c.loop.seat w.step_with.new.self c.loop.invariant.0 w.step_with.ensures.step.seat w.step_with.ensures.step.rank w.step_with.ensures.step.turned)
    ]

pub returns-clause-same : goal.returns-clause-same
returns-clause-same g c = elim c.match-next.branch [
  | in-None w ↦ let bad = subst IsSome w.in-None.is c.next.ensures.steps in absurd (cc)
  | in-Some+in-Finished w ↦ ap who w.self-is
]

pub returns-clause-closed : goal.returns-clause-closed
returns-clause-closed g c =
    let d = (goal.at.returns-clause-closed g c).After-index-shards-at in
    elim c.match-next.branch [
      | in-None w ↦ let bad = subst IsSome w.in-None.is c.next.ensures.steps in absurd (cc)
      | in-Some+in-Finished w ↦
          let closed = w.step_with.ensures.step.finished.0 w.in-Finished.is in
          let still = w.step_with.ensures.step.nothing closed in
          subst (λ z. AllClosed g.C.ShardCore.says c.args.shards.now z.seats.items) (sym w.self-is)
          (closed_with g.C.ShardCore.says g.met.C.ShardCore.shard_laws c.args.shards.now c.args.self.now c.requires.caller c.index-shards-at.result c.index_mut-seat.result.now (has_shard g d) (has_seat g d)
          w.step_with.new.self
          (steps_with g.C.ShardCore.says g.met.C.ShardCore.shard_laws c.args.shards.now c.args.self.now c.requires.caller c.index-shards-at.result c.index_mut-seat.result.now (has_shard g d) (has_seat g d)
          c.loop.seat w.step_with.new.self c.loop.invariant.0 w.step_with.ensures.step.seat w.step_with.ensures.step.rank w.step_with.ensures.step.turned)
          (subst (IsClosed g.C.ShardCore.says c.index-shards-at.result) (sym still) closed))
    ]
