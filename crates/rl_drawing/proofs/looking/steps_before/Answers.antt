-- One step more, and whether it shows it.
use Rattle.std.proofs.Common.{◌≡◌, false, replicate, ap, sym, ◌∙◌, arith}
use borrow.Author.Count.{below_more}
use Rattle.rl_machine.specs.Running.{running}
use Rattle.rl_machine.specs.Run.{run_of}
use Rattle.rl_replay.specs.laws.RunLaws.{made_after, there_after, next}
use Rattle.rl_drawing.specs.Leads.{sees}
use Rattle.rl_drawing.proofs.looking.steps_before.Goals as goal

pub step_looking-requires-clause-there : goal.step_looking-requires-clause-there
step_looking-requires-clause-there g c =
    there_after (running g.C.ShardCore.says c.args.machine.now) (running g.C.ShardCore.says c.loop-made.machine) c.loop-made.made c.args.rank c.loop-made.invariant.0 c.requires.there

pub step_looking-requires-clause-few : goal.step_looking-requires-clause-few
step_looking-requires-clause-few g c =
    let made = made_after (running g.C.ShardCore.says c.args.machine.now) (running g.C.ShardCore.says c.loop-made.machine) c.loop-made.made c.args.rank c.loop-made.invariant.0 in
    let few = c.requires.few in
    omega arith

pub loop-made-preserved : goal.loop-made-preserved
loop-made-preserved g c =
    let first = running g.C.ShardCore.says c.args.machine.now in
    let mid = running g.C.ShardCore.says c.loop-made.machine in
    let k = c.args.rank in
    let shown = c.in_ok-step_looking.ensures.shown in
    let here : sees c.args.scene.place.now c.args.sought (run_of first (replicate c.loop-made.made k)) k ≡ false =
    ap (λ m. sees c.args.scene.place.now c.args.sought m k) (sym c.loop-made.invariant.0) ∙ sym shown ∙ c.if-branch.false in (
      next first mid (running g.C.ShardCore.says c.step_looking.new.machine) c.loop-made.made k c.loop-made.invariant.0 c.in_ok-step_looking.ensures.stepped,
      below_more (λ i. sees c.args.scene.place.now c.args.sought (run_of first (replicate i k)) k ≡ false) c.loop-made.made c.loop-made.invariant.1 here,
    )

pub returns-then-branch-clause-run : goal.returns-then-branch-clause-run
returns-then-branch-clause-run g c =
    let first = running g.C.ShardCore.says c.args.machine.now in
    let mid = running g.C.ShardCore.says c.loop-made.machine in
    next first mid (running g.C.ShardCore.says c.step_looking.new.machine) c.loop-made.made c.args.rank c.loop-made.invariant.0 c.in_ok-step_looking.ensures.stepped
