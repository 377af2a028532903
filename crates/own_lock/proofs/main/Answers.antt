-- The machine begins with no step and its ranks; a step counts one answer, and changes no calls.
use Rattle.std.proofs.Common.{◌+◌, length, ap, ◌∙◌, arith, rules}
use Rattle.std.proofs.lemmas.Grind.{common_steps}
use Rattle.rl_step.specs.Answers.{steps_made}
use Rattle.rl_machine.specs.Running.{Running}
use Rattle.own_lock.proofs.main.Goals as goal

pub loop-step-init : goal.loop-step-init
loop-step-init c =
    let made = c.in_ok-machine.ensures.made in
    let ranks = ap (λ (m : Running _). length m.calls) made ∙ c.in_ok-ops.ensures.fit.ranks_there in
    (ap (λ (m : Running _). steps_made m.steps) made, ranks, first_of (search rules, grind (arith, common_steps)))

pub loop-step-preserved : goal.loop-step-preserved
loop-step-preserved c =
    let step = c.in_ok-answer.ensures in let kept = c.loop-step.invariant in
    (step.counted ∙ ap (λ n. n + 1) kept.0, ap length step.calls ∙ kept.1, kept.2)
