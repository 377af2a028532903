-- The machine begins with no step and a rank; a step counts one answer, and changes no calls.
use Rattle.std.proofs.Common.{◌≡◌, ℕ, ◌+◌, ◌<◌, length, ap, sym, ◌∙◌, subst, arith}
use Rattle.rl_step.specs.Answers.{steps_made}
use Rattle.rl_machine.specs.Running.{Running}
use Rattle.first_steps.proofs.nine_steps.Goals as goal

-- what a machine that is made has
as_made : {V : Type 0} (first now : Running V) → now ≡ first → (steps_made now.steps ≡ steps_made first.steps) × (length now.calls ≡ length first.calls)
as_made first now is = (ap (λ m. steps_made m.steps) is, ap (λ m. length m.calls) is)

pub loop-init : goal.loop-init
loop-init c =
    let made = as_made _ _ c.in_ok-machine.ensures.made in
    let ranks = made.1 ∙ c.requires.calls.ranks_there in
    let some = c.requires.proper.some_ranks in
    (made.0, omega (arith, ranks, some))

pub loop-preserved : goal.loop-preserved
loop-preserved c =
    let step = c.in_ok-step.ensures in
    (step.counted ∙ ap (λ n. n + 1) c.loop.invariant.0, subst (λ n. 0 < n) (sym (ap length step.calls)) c.loop.invariant.1)
