use Rattle.std.proofs.Common.{◌≡◌, ◌≤◌, length, sum_by, IfOk, ap, sym, subst, ◌∙◌, arith}
use Rattle.std.proofs.lemmas.List.{length-map}
use Rattle.rl_ops.specs.Schedule.{steps_of}
use Rattle.rl_machine.specs.Running.{running, shard_run}
use Rattle.rl_machine.specs.Changes.{OnlyWritersChange}
use Rattle.rl_machine.specs.Promises.{IsSound}
use Rattle.rl_locks.specs.OnShards.{EachShard}
use Rattle.rl_reporting.specs.Reported.{report_in, queue_count}
use Rattle.rl_locks.specs.Runs.{machine_after}
use Rattle.rl_inputs.proofs.SuitLaws.{sizes_suit}
use Rattle.rl_machine.specs.laws.Alike.{steps_are}
use Rattle.rl_program.proofs.KeptLaws.{where_ok, ran, says_is, keeps_is, same_calls, each_shard, is_kept}
use Rattle.rl_program.proofs.MachineOf.{machine_of}
use Rattle.rl_program.proofs.ReplayReports.{lawful, lawful_ok}
use Rattle.rl_program.proofs.replaying.report_with.Goals as goal
use Rattle.rl_program.proofs.replaying.report_with.Goals.{In_ok-machine}
use Rattle.rl_program.proofs.replaying.report_with.Given.{Over}

pub replay-requires-clause-few : goal.replay-requires-clause-few
replay-requires-clause-few g c =
    let turns = c.as_slice-turns.result.now in
    let few : sum_by steps_of turns ≤ 2000000 = subst (λ ts. sum_by steps_of ts ≤ 2000000) (sym c.as_slice-turns.ensures) c.requires.may.2.few in
    let same = steps_are turns in
    omega (arith, few, same)

pub replay-requires-clause-batches : goal.replay-requires-clause-batches
replay-requires-clause-batches g c = sizes_suit c.args.place.now c.args.ops g.C.ShardCore.batches c.requires.batches c.requires.may.1

-- the machine is that of the placement and the schedule
made : (g : Over) (c : In_ok-machine g) → running g.C.ShardCore.says c.in_ok-machine.machine ≡ machine_after g.C.ShardCore.defined c.args.place.now c.args.ops c.args.schedule.now.turns
made g c =
    ran g.C.ShardCore.defined c.args.place.now c.args.ops c.args.schedule.now _ _ _ _ _ (running g.C.ShardCore.says c.in_ok-machine.machine)
    c.place.view_is c.in_ok-shape.ensures.exact c.knobs-knobs.ensures c.as_slice-homes.ensures.value c.as_slice-turns.ensures c.in_ok-machine.ensures.run

pub report_of_machine-requires-clause-shards : goal.report_of_machine-requires-clause-shards
report_of_machine-requires-clause-shards g c =
    let place = c.args.place.now in
    let run = made g (goal.at.report_of_machine-requires-clause-shards g c).In_ok-machine in
    sym (length-map c.in_ok-machine.machine.shards (shard_run g.C.ShardCore.says)) ∙ ap (λ m. length m.shards) run ∙ each_shard g.C.ShardCore.defined place c.args.ops c.args.schedule.now ∙ c.requires.proper.each_shard

pub report_of_machine-requires-clause-ranks : goal.report_of_machine-requires-clause-ranks
report_of_machine-requires-clause-ranks g c =
    let run = made g (goal.at.report_of_machine-requires-clause-ranks g c).In_ok-machine in
    ap (λ m. length m.calls) run ∙ ap length (same_calls g.C.ShardCore.defined c.args.place.now c.args.ops c.args.schedule.now) ∙ c.requires.may.0.ranks_there

pub returns-clause-report : goal.returns-clause-report
returns-clause-report g c =
    let place = c.args.place.now in
    let run = made g (goal.at.returns-clause-report g c).In_ok-machine in
    subst (λ m. IfOk c.report_of_machine.result (λ report. report ≡ report_in (queue_count place) m)) run c.report_of_machine.ensures.report

pub returns-clause-kept : goal.returns-clause-kept
returns-clause-kept g c =
    let place = c.args.place.now in
    let schedule = c.args.schedule.now in
    let run = made g (goal.at.returns-clause-kept g c).In_ok-machine in
    let geom = ap (λ p. p.geom) c.place.view_is in
    let homes = c.as_slice-homes.ensures.value ∙ ap (λ p. p.homes) c.place.view_is in
    let says = says_is g.C.ShardCore.defined place c.args.ops schedule _ _ _ _ _ c.in_ok-shape.ensures.exact c.knobs-knobs.ensures geom homes c.as_slice-turns.ensures g.C.ShardCore.promised c.in_ok-machine.ensures.further in
    let queues = keeps_is g.C.ShardCore.name place _ _ _ _ _ c.requires.kind c.in_ok-shape.ensures.exact c.knobs-knobs.ensures homes run c.in_ok-machine.ensures.queues in
    where_ok c.report_of_machine.result (is_kept g.C.ShardCore.defined place c.args.ops schedule g.C.ShardCore.promised g.C.Promising.ways (subst IsSound run c.in_ok-machine.ensures.sound) (subst OnlyWritersChange run c.in_ok-machine.ensures.changes) queues says
    (subst (EachShard g.C.Promising.ways) run c.ways_of_machine.ensures.now))

pub returns-clause-lawful : goal.returns-clause-lawful
returns-clause-lawful g c =
    let place = c.args.place.now in
    let schedule = c.args.schedule.now in
    let run = made g (goal.at.returns-clause-lawful g c).In_ok-machine in
    let of = machine_of g.C.ShardCore.defined g.C.ShardCore.name g.met.C.ShardCore.has_queues place c.args.ops schedule c.requires.kind g.met.C.ShardCore.has_cohorts c.requires.may.2 in
    lawful_ok place c.args.ops (machine_after g.C.ShardCore.defined place c.args.ops schedule.turns) c.report_of_machine.result
    (subst (λ m. IfOk c.report_of_machine.result (λ report. report ≡ report_in (queue_count place) m)) run c.report_of_machine.ensures.report) c.report_of_machine.ensures.numbers
    (λ numbers. lawful place c.args.ops c.requires.proper c.requires.may.0 (machine_after g.C.ShardCore.defined place c.args.ops schedule.turns) (subst IsSound run c.in_ok-machine.ensures.sound) of numbers)
