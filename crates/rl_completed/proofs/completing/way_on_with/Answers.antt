-- The given turns are taken, and the way on from there makes the schedule complete, or fills it up.
use Rattle.std.proofs.Common.{◌≡◌, ◌≤◌, ◌+◌, List, length, sum_by, sym, ap, subst, ◌∙◌, arith}
use Rattle.std.specs.List.{AllByRecursion}
use Rattle.rl_ops.specs.declared.schedule.Turn.{Turn}
use Rattle.rl_ops.specs.Schedule.{TurnFits, steps_of}
use Rattle.rl_machine.specs.Running.{running}
use Rattle.rl_machine.specs.Run.{run_of, ranks_of_turns, steps_in}
use Rattle.rl_locks.specs.Runs.{machine_after}
use Rattle.rl_inputs.proofs.SuitLaws.{sizes_suit}
use Rattle.rl_completed.proofs.CompletingLaws.{steps_are, homes_there, ran, reached, completes, too_long}
use Rattle.rl_completed.proofs.NextLaws.{goes_next}
use Rattle.rl_completed.proofs.completing.way_on_with.Goals as goal
use Rattle.rl_completed.proofs.completing.way_on_with.Goals.{In_ok-machine}
use Rattle.rl_completed.proofs.completing.way_on_with.Given.{Over}

-- so many steps are in the given turns
few_steps : (turns given : List Turn) → turns ≡ given → sum_by steps_of given ≤ 2000000 → sum_by steps_of turns ≤ 2000000
few_steps turns given same few = subst (λ ts. sum_by steps_of ts ≤ 2000000) (sym same) few

pub total_steps-most-requires : goal.total_steps-most-requires
total_steps-most-requires g c =
    let few = few_steps c.as_slice-turns.result.now c.args.schedule.now.turns c.as_slice-turns.ensures c.requires.may.2.few in
    omega (arith, few)

pub overflow_sub-most : goal.overflow_sub-most
overflow_sub-most g c =
    let few = few_steps c.as_slice-turns.result.now c.args.schedule.now.turns c.as_slice-turns.ensures c.requires.may.2.few in
    let total = c.total_steps-most.ensures in
    omega (arith, few, total)

pub replay-requires-clause-few : goal.replay-requires-clause-few
replay-requires-clause-few g c =
    let turns = c.as_slice-turns.result.now in
    let few = few_steps turns c.args.schedule.now.turns c.as_slice-turns.ensures c.requires.may.2.few in
    let same = steps_are turns in
    omega (arith, few, same)

pub replay-requires-clause-batches : goal.replay-requires-clause-batches
replay-requires-clause-batches g c = sizes_suit c.args.place.now c.args.ops g.C.ShardCore.batches c.requires.batches c.requires.may.1

pub replay-requires-clause-homes : goal.replay-requires-clause-homes
replay-requires-clause-homes g c = homes_there c.args.place.now c.in_ok-shape.shape c.as_slice-homes.result.now c.in_ok-shape.ensures.exact (c.as_slice-homes.ensures.value ∙ ap (λ p. p.homes) c.place.view_is) c.requires.proper.homes

-- the machine has taken the given turns
made : (g : Over) (c : In_ok-machine g) → running g.C.ShardCore.says c.in_ok-machine.machine ≡ machine_after g.C.ShardCore.defined c.args.place.now c.args.ops c.args.schedule.now.turns
made g c =
    ran g.C.ShardCore.defined c.args.place.now _ c.args.ops _ _ _ c.as_slice-turns.result.now c.args.schedule.now.turns (running g.C.ShardCore.says c.in_ok-machine.machine)
    c.place.view_is c.in_ok-shape.ensures.exact c.knobs-knobs.ensures c.as_slice-homes.ensures.value c.as_slice-turns.ensures c.in_ok-machine.ensures.run

pub finish-requires-clause-few : goal.finish-requires-clause-few
finish-requires-clause-few g c =
    let run = made g (goal.at.finish-requires-clause-few g c).In_ok-machine in
    let at = reached g.C.ShardCore.defined c.args.place.now c.args.ops c.args.schedule.now.turns _ run c.requires.may.0.ranks_there in
    let made = at.0 in
    let few = c.requires.may.2.few in
    omega (arith, made, few)

pub finish-requires-clause-ranks : goal.finish-requires-clause-ranks
finish-requires-clause-ranks g c =
    let run = made g (goal.at.finish-requires-clause-ranks g c).In_ok-machine in
    let at = reached g.C.ShardCore.defined c.args.place.now c.args.ops c.args.schedule.now.turns _ run c.requires.may.0.ranks_there in
    let ranks : length c.in_ok-machine.machine.calls ≡ length c.args.place.now.paths = at.1 in
    let most : length c.args.place.now.paths ≤ 32 = c.requires.proper.most_ranks in
    omega (arith, ranks, most)

pub returns-then-way : goal.returns-then-way
returns-then-way g c = λ urgent defines.
    let place = c.args.place.now in
    let given = c.args.schedule.now.turns in
    let run = made g (goal.at.returns-then-way g c).In_ok-machine in
    let at = reached g.C.ShardCore.defined place c.args.ops given _ run c.requires.may.0.ranks_there in
    let more = c.in_ok-way.way.turns in
    let on = c.in_ok-way.ensures in
    let ranks : length c.in_ok-machine.machine.calls ≡ length place.paths = at.1 in
    let there = subst (λ n. AllByRecursion (TurnFits n) more) ranks on.there in
    let total : c.total_steps-most.result ≡ sum_by steps_of given = c.total_steps-most.ensures ∙ ap (λ ts. sum_by steps_of ts) c.as_slice-turns.ensures in
    let same = steps_are given in
    let front : sum_by steps_of given ≤ 2000000 = c.requires.may.2.few in
    let behind = on.few in
    let few : steps_in given + steps_in more ≤ 2000000 = omega (arith, total, same, front, behind) in
    let next = goes_next g.C.ShardCore.says g.C.ShardGuiding.urgent g.C.ShardCore.defined urgent defines place c.args.ops given c.in_ok-machine.machine run (ranks_of_turns more) on.way in
    completes g.C.ShardCore.defined urgent place c.args.ops c.args.schedule.now more (running g.C.ShardCore.says c.finish.new.machine) c.requires.may.3 (on.run ∙ ap (λ z. run_of z (ranks_of_turns more)) run) next c.requires.may.2 on.whole there few (on.ended.0 c.if-way.true)

pub returns : goal.returns
returns g c = λ urgent defines.
    let place = c.args.place.now in
    let given = c.args.schedule.now.turns in
    let run = made g (goal.at.returns g c).In_ok-machine in
    let more = c.in_ok-way.way.turns in
    let on = c.in_ok-way.ensures in
    let total : c.total_steps-most.result ≡ sum_by steps_of given = c.total_steps-most.ensures ∙ ap (λ ts. sum_by steps_of ts) c.as_slice-turns.ensures in
    let same = steps_are given in
    let front : sum_by steps_of given ≤ 2000000 = c.requires.may.2.few in
    let behind = on.all c.if-way.false in
    let full : steps_in given + steps_in more ≡ 2000000 = omega (arith, total, same, front, behind) in
    let next = goes_next g.C.ShardCore.says g.C.ShardGuiding.urgent g.C.ShardCore.defined urgent defines place c.args.ops given c.in_ok-machine.machine run (ranks_of_turns more) on.way in
    too_long g.C.ShardCore.defined urgent place c.args.ops c.args.schedule.now more (running g.C.ShardCore.says c.finish.new.machine) c.requires.may.3 (on.run ∙ ap (λ z. run_of z (ranks_of_turns more)) run) next full
    (λ done. let ended = on.ended.1 done in let not = c.if-way.false in cc)
