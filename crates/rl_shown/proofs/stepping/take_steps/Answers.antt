-- One step more.
use Rattle.std.proofs.Common.{◌++◌, [], ◌∷◌, ap, ◌∙◌, arith}
use Rattle.rl_text.specs.Spelling.{text_of}
use Rattle.rl_machine.specs.Running.{running}
use Rattle.rl_shown.specs.Listing.{step_lines}
use Rattle.rl_shown.proofs.ListingLaws.{step_more, run_more}
use Rattle.rl_shown.proofs.stepping.take_steps.Goals as goal

pub loop-preserved : goal.loop-preserved
loop-preserved g c =
    let was = c.loop.invariant in
    let took = c.in_ok-take_step.ensures in
    let scene = c.args.scene in
    let k = c.args.rank in
    let n = c.loop.counter in
    let m = running g.C.ShardCore.says c.args.machine.now in
    let mid = running g.C.ShardCore.says c.loop.machine in
    let now = running g.C.ShardCore.says c.take_step.new.machine in (
      took.text ∙ ap (λ z. z ++ text_of (step_lines scene.place.now scene.naming.now scene.window mid (k ∷ []))) was.0 ∙ step_more scene.place.now scene.naming.now scene.window c.args.out.now.items m mid n k was.1,
      run_more m mid now n k was.1 took.stepped,
      (let a = took.counted in let b = was.2 in omega arith),
      took.calls ∙ was.3,
    )
