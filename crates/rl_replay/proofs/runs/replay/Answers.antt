-- One turn more, and what every run from the start promises.
use Rattle.std.proofs.Common.{[], ◌≡◌, ◌+◌, ◌≤◌, Some, length, slice_get, slice_index_or, take, ap, sym, subst, ◌∙◌, arith}
use Rattle.std.proofs.lemmas.Option.{slice_get-get_or}
use Rattle.rl_step.specs.Answers.{steps_made}
use Rattle.rl_ops.specs.declared.schedule.Turn.{Turn}
use Rattle.rl_ops.specs.declared.schedule.Turn.TheVariants.{Steps}
use Rattle.rl_ops.specs.Schedule.{steps_of}
use Rattle.rl_machine.specs.Run.{run_of, turn_ranks, ranks_of_turns, steps_in, AreThere}
use Rattle.rl_machine.specs.RunTransitions.{EachSays}
use Rattle.rl_machine.specs.Start.{start_of}
use Rattle.std.proofs.Math.Seq.{take-length}
use Rattle.rl_machine.specs.Promises.{EachKeepsQueues}
use Rattle.rl_machine.specs.laws.ReplayLaws.{run_append, ranks-more, steps-more, steps-within, ranks_there}
use Rattle.rl_replay.proofs.runs.replay.Goals as goal

pub loop-turn-init : goal.loop-turn-init
loop-turn-init g c =
    let made = c.in_ok-machine.ensures.made in
    (made, ap (λ m. steps_made m.steps) made, ap (λ m. length m.calls) made ∙ c.requires.ops.ranks_there, c.in_ok-rests.ensures.many, c.in_ok-rests.ensures.rested)

pub take_turn-requires-clause-few : goal.take_turn-requires-clause-few
take_turn-requires-clause-few g c =
    let ts = c.args.turns.now in
    let i = c.loop-turn.turn-index in
    let t : Turn = slice_index_or c.args.turns.now c.loop-turn.turn-index (Steps 0 0) in
    let at : slice_get ts i ≡ Some t = slice_get-get_or ts i (Steps 0 0) c.loop-turn-test.true in
    let made : steps_made c.loop-turn.machine.steps ≡ steps_in (take i ts) = c.loop-turn.invariant.1 in
    let more = steps-more ts i t at in
    let within : steps_in (take (i + 1) ts) ≤ steps_in ts = steps-within ts (i + 1) in
    let few = c.requires.few in
    omega arith

pub loop-turn-preserved : goal.loop-turn-preserved
loop-turn-preserved g c =
    let ts = c.args.turns.now in
    let i = c.loop-turn.turn-index in
    let t : Turn = slice_index_or c.args.turns.now c.loop-turn.turn-index (Steps 0 0) in
    let at : slice_get ts i ≡ Some t = slice_get-get_or ts i (Steps 0 0) c.loop-turn-test.true in
    let first = start_of g.C.ShardCore.defined c.args.shape.now c.args.knobs c.args.geom c.args.homes.now c.args.ops in
    let steps = turn_ranks t in
    let took = c.in_ok-take_turn.ensures in (
      took.run ∙ ap (λ m. run_of m steps) c.loop-turn.invariant.0 ∙ sym (run_append first (ranks_of_turns (take i ts)) steps) ∙ sym (ap (run_of first) (ranks-more ts i t at)),
      took.steps ∙ ap (λ n. n + steps_of t) c.loop-turn.invariant.1 ∙ sym (steps-more ts i t at),
      ap length took.calls ∙ c.loop-turn.invariant.2,
      took.many ∙ c.loop-turn.invariant.3 ∙ sym (ap length took.calls),
      took.rested,
    )

pub returns-clause-run : goal.returns-clause-run
returns-clause-run g c =
    let first = start_of g.C.ShardCore.defined c.args.shape.now c.args.knobs c.args.geom c.args.homes.now c.args.ops in
    let done : c.loop-turn.turn-index ≡ length c.args.turns.now = omega arith in
    c.loop-turn.invariant.0 ∙ ap (λ ts. run_of first (ranks_of_turns ts)) (ap (λ n. take n c.args.turns.now) done ∙ take-length c.args.turns.now)

pub returns-clause-further : goal.returns-clause-further
returns-clause-further g c =
    let there = subst (λ n. AreThere n (ranks_of_turns c.args.turns.now)) (sym c.requires.ops.ranks_there) (ranks_there (length c.args.shape.now.node_of) c.args.turns.now c.requires.there) in
    subst (λ m. EachSays g.C.ShardCore.promised c.args.shape.now c.args.knobs c.args.homes.now m (ranks_of_turns c.args.turns.now)) c.in_ok-machine.ensures.made
    (c.in_ok-machine.ensures.says (ranks_of_turns c.args.turns.now) there)

pub returns-clause-queues : goal.returns-clause-queues
returns-clause-queues g c =
    let first = start_of g.C.ShardCore.defined c.args.shape.now c.args.knobs c.args.geom c.args.homes.now c.args.ops in
    let there = subst (λ n. AreThere n (ranks_of_turns c.args.turns.now)) (sym c.requires.ops.ranks_there) (ranks_there (length c.args.shape.now.node_of) c.args.turns.now c.requires.there) in
    let done : c.loop-turn.turn-index ≡ length c.args.turns.now = omega arith in
    let run = c.loop-turn.invariant.0 ∙ ap (λ ts. run_of first (ranks_of_turns ts)) (ap (λ n. take n c.args.turns.now) done ∙ take-length c.args.turns.now) in
    subst (EachKeepsQueues g.C.ShardCore.name c.args.shape.now c.args.knobs c.args.homes.now) (ap (λ m. run_of m (ranks_of_turns c.args.turns.now)) c.in_ok-machine.ensures.made ∙ sym run)
    (c.in_ok-machine.ensures.keeps (ranks_of_turns c.args.turns.now) there)

pub returns-clause-changes : goal.returns-clause-changes
returns-clause-changes g c = c.soundness.ensures.changes [] tt
