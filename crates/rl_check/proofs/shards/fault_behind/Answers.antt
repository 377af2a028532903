use Rattle.std.proofs.Common.{◌≡◌, ap, sym, ◌∙◌, arith, length, slice_index, subst, Bool, List, IfOk}
use Rattle.rl_step.specs.Queues.{QueueOf}
use Rattle.rl_check.specs.Finding.{replay_tests}
use Rattle.rl_check.specs.Shards.{part_tests}
use Rattle.rl_check.specs.Tests.{IsFirstOf}
use Rattle.rl_check.specs.Watching.{IsThere}
use Rattle.rl_report.proofs.NamingLaws.{few_queues}
use Rattle.rl_report.proofs.QueueLaws.{queues_long}
use Rattle.rl_check.proofs.ReportFacts.{events_there}
use Rattle.rl_check.proofs.shards.fault_behind.Goals as goal

pub fault_of_replay-requires-clause-each : goal.fault_of_replay-requires-clause-each
fault_of_replay-requires-clause-each c =
    c.requires.fits.each_queue ∙ sym (queues_long c.args.place.now (slice_index c.args.place.now.homes c.args.shard)) ∙ ap length (sym c.of-queues.ensures.queues)

pub fault_of_replay-requires-clause-few : goal.fault_of_replay-requires-clause-few
fault_of_replay-requires-clause-few c = let few = few_queues c.args.place.now c.requires.proper in omega (arith, few, c.requires.fits.each_queue)

pub fault_of_replay-requires-clause-there : goal.fault_of_replay-requires-clause-there
fault_of_replay-requires-clause-there c i e get =
    let n : length c.args.place.now.paths ≡ c.len.result = omega (arith, c.len.ensures, ap (λ p. length p.paths) c.place.view_is, c.place.inside.paths.ok.0) in
    subst (λ m. IsThere m e.1) n (events_there c.args.place.now c.args.replay c.args.shard c.args.part.now c.requires.fits c.if-replay.true i e get)

pub returns-then-replay : goal.returns-then-replay
returns-then-replay c =
    let home = slice_index c.args.place.now.homes c.args.shard in
    subst (λ (b : Bool). IfOk c.fault_of_replay.result (IsFirstOf
    (part_tests c.args.place.now b c.args.shard home c.args.part.now c.args.table.now.table))) (sym c.if-replay.true)
    (subst (λ (qs : List QueueOf). IfOk c.fault_of_replay.result (IsFirstOf (replay_tests qs c.args.part.now))) c.of-queues.ensures.queues
    c.fault_of_replay.ensures)

pub fault_of_run-requires-clause-each : goal.fault_of_run-requires-clause-each
fault_of_run-requires-clause-each c =
    c.requires.fits.each_queue ∙ sym (queues_long c.args.place.now (slice_index c.args.place.now.homes c.args.shard)) ∙ ap length (sym c.of-queues.ensures.queues)
