-- What was noted of the rank says what its steps are, or they are made in full until it is seen to rest.
use Rattle.std.proofs.Common.{◌≡◌, ◌<◌, ◌+◌, length, ap, sym, ◌∙◌, arith, replicate}
use Rattle.rl_machine.specs.Run.{run_of}
use Rattle.rl_machine.specs.Running.{running}
use Rattle.rl_replay.specs.laws.RunLaws.{made_after, calls_after, there_after, next, whole, on_err}
use Rattle.rl_replay.proofs.runs.take_steps.Goals as goal
use Rattle.rl_replay.proofs.runs.take_steps.Goals.{In_ok-step_in_full, Then-take_noted-2}
use Rattle.rl_replay.proofs.runs.take_steps.Given.{Over}

pub returns-then-take_noted-clause-steps : goal.returns-then-take_noted-clause-steps
returns-then-take_noted-clause-steps g c =
    made_after (running g.C.ShardCore.says c.args.machine.now) (running g.C.ShardCore.says c.take_noted.new.machine) c.args.count c.args.rank (c.take_noted.ensures.run c.if-take_noted.true)

pub returns-then-take_noted-clause-calls : goal.returns-then-take_noted-clause-calls
returns-then-take_noted-clause-calls g c =
    calls_after (running g.C.ShardCore.says c.args.machine.now) (running g.C.ShardCore.says c.take_noted.new.machine) c.args.count c.args.rank (c.take_noted.ensures.run c.if-take_noted.true)

pub step_in_full-requires-clause-there : goal.step_in_full-requires-clause-there
step_in_full-requires-clause-there g c =
    there_after (running g.C.ShardCore.says c.args.machine.now) (running g.C.ShardCore.says c.loop-made.machine) c.loop-made.made c.args.rank c.loop-made.invariant.1 c.requires.there

pub step_in_full-requires-clause-many : goal.step_in_full-requires-clause-many
step_in_full-requires-clause-many g c =
    c.loop-made.invariant.2 ∙ c.requires.many ∙
    sym (ap length (calls_after (running g.C.ShardCore.says c.args.machine.now) (running g.C.ShardCore.says c.loop-made.machine) c.loop-made.made c.args.rank c.loop-made.invariant.1))

pub step_in_full-requires-clause-few : goal.step_in_full-requires-clause-few
step_in_full-requires-clause-few g c =
    let made = made_after (running g.C.ShardCore.says c.args.machine.now) (running g.C.ShardCore.says c.loop-made.machine) c.loop-made.made c.args.rank c.loop-made.invariant.1 in
    let more : c.loop-made.made < c.args.count = c.loop-made-test.true in
    let few = c.requires.few in
    omega arith

pub returns-in_err-step_in_full-clause-part : goal.returns-in_err-step_in_full-clause-part
returns-in_err-step_in_full-clause-part g c =
    on_err c.from_residual.result (c.loop-made.made, c.loop-made-test.true, ap (running g.C.ShardCore.says) c.in_err-step_in_full.ensures.kept ∙ c.loop-made.invariant.1)

-- after a step more the run is one step longer
longer : (g : Over) (c : In_ok-step_in_full g) →
    running g.C.ShardCore.says c.step_in_full.new.machine ≡ run_of (running g.C.ShardCore.says c.args.machine.now) (replicate (c.loop-made.made + 1) c.args.rank)
longer g c =
    next (running g.C.ShardCore.says c.args.machine.now) (running g.C.ShardCore.says c.loop-made.machine) (running g.C.ShardCore.says c.step_in_full.new.machine)
    c.loop-made.made c.args.rank c.loop-made.invariant.1 c.in_ok-step_in_full.ensures.stepped

-- and the rank is there still
there : (g : Over) (c : In_ok-step_in_full g) → c.args.rank < length c.step_in_full.new.machine.calls
there g c = there_after (running g.C.ShardCore.says c.args.machine.now) (running g.C.ShardCore.says c.step_in_full.new.machine) (c.loop-made.made + 1) c.args.rank (longer g c) c.requires.there

-- as are the notes of all ranks
many : (g : Over) (c : In_ok-step_in_full g) → length c.step_in_full.new.rests.items ≡ length c.step_in_full.new.machine.calls
many g c =
    c.step_in_full.ensures.many ∙ c.loop-made.invariant.2 ∙ c.requires.many ∙
    sym (ap length (calls_after (running g.C.ShardCore.says c.args.machine.now) (running g.C.ShardCore.says c.step_in_full.new.machine) (c.loop-made.made + 1) c.args.rank (longer g c)))

pub loop-made-preserved-then-branch : goal.loop-made-preserved-then-branch
loop-made-preserved-then-branch g c =
    let now = (goal.at.loop-made-preserved-then-branch g c).In_ok-step_in_full in (
      c.step_in_full.ensures.cores ∙ c.loop-made.invariant.0,
      longer g now,
      c.step_in_full.ensures.many ∙ c.loop-made.invariant.2,
      c.in_ok-step_in_full.ensures.rested,
    )

pub take_noted-requires-in-loop-made-clause-there : goal.take_noted-requires-in-loop-made-clause-there
take_noted-requires-in-loop-made-clause-there g c = there g (goal.at.take_noted-requires-in-loop-made-clause-there g c).In_ok-step_in_full

pub take_noted-requires-in-loop-made-clause-many : goal.take_noted-requires-in-loop-made-clause-many
take_noted-requires-in-loop-made-clause-many g c = many g (goal.at.take_noted-requires-in-loop-made-clause-many g c).In_ok-step_in_full

pub take_noted-requires-in-loop-made-clause-few : goal.take_noted-requires-in-loop-made-clause-few
take_noted-requires-in-loop-made-clause-few g c =
    let run = longer g (goal.at.take_noted-requires-in-loop-made-clause-few g c).In_ok-step_in_full in
    let made = made_after (running g.C.ShardCore.says c.args.machine.now) (running g.C.ShardCore.says c.step_in_full.new.machine) (c.loop-made.made + 1) c.args.rank run in
    let more : c.loop-made.made < c.args.count = c.loop-made-test.true in
    let few = c.requires.few in
    omega arith

rest : (g : Over) (c : Then-take_noted-2 g) →
    running g.C.ShardCore.says c.take_noted-in-loop-made.new.machine ≡ run_of (running g.C.ShardCore.says c.args.machine.now) (replicate c.args.count c.args.rank)
rest g c =
    whole (running g.C.ShardCore.says c.args.machine.now) (running g.C.ShardCore.says c.step_in_full.new.machine) (running g.C.ShardCore.says c.take_noted-in-loop-made.new.machine)
    c.loop-made.made c.args.count c.args.rank c.loop-made-test.true (longer g (goal.at.Then-take_noted-2 g c).In_ok-step_in_full) (c.take_noted-in-loop-made.ensures.run c.if-take_noted-2.true)

pub returns-then-take_noted-2-clause-run : goal.returns-then-take_noted-2-clause-run
returns-then-take_noted-2-clause-run g c = rest g (goal.at.returns-then-take_noted-2-clause-run g c).Then-take_noted-2

pub returns-then-take_noted-2-clause-steps : goal.returns-then-take_noted-2-clause-steps
returns-then-take_noted-2-clause-steps g c =
    let run = rest g (goal.at.returns-then-take_noted-2-clause-steps g c).Then-take_noted-2 in
    made_after (running g.C.ShardCore.says c.args.machine.now) (running g.C.ShardCore.says c.take_noted-in-loop-made.new.machine) c.args.count c.args.rank run

pub returns-then-take_noted-2-clause-calls : goal.returns-then-take_noted-2-clause-calls
returns-then-take_noted-2-clause-calls g c =
    let run = rest g (goal.at.returns-then-take_noted-2-clause-calls g c).Then-take_noted-2 in
    calls_after (running g.C.ShardCore.says c.args.machine.now) (running g.C.ShardCore.says c.take_noted-in-loop-made.new.machine) c.args.count c.args.rank run

pub loop-made-preserved : goal.loop-made-preserved
loop-made-preserved g c =
    let tried = c.take_noted-in-loop-made.ensures in
    let kept = tried.kept c.if-take_noted-2.false in (
      tried.cores ∙ c.step_in_full.ensures.cores ∙ c.loop-made.invariant.0,
      ap (running g.C.ShardCore.says) kept ∙ longer g (goal.at.loop-made-preserved g c).In_ok-step_in_full,
      tried.many ∙ c.step_in_full.ensures.many ∙ c.loop-made.invariant.2,
      tried.rested,
    )

pub returns-clause-steps : goal.returns-clause-steps
returns-clause-steps g c =
    let old = running g.C.ShardCore.says c.args.machine.now in
    let done : c.loop-made.made ≡ c.args.count = omega arith in
    made_after old (running g.C.ShardCore.says c.loop-made.machine) c.args.count c.args.rank (c.loop-made.invariant.1 ∙ ap (λ n. run_of old (replicate n c.args.rank)) done)

pub returns-clause-calls : goal.returns-clause-calls
returns-clause-calls g c = calls_after (running g.C.ShardCore.says c.args.machine.now) (running g.C.ShardCore.says c.loop-made.machine) c.loop-made.made c.args.rank c.loop-made.invariant.1
