use Rattle.std.proofs.Common.{◌≡◌, true, false}
use Rattle.rl_check.proofs.TallyLaws.{too_many}
use Rattle.rl_check.proofs.queues.Queues.had_by_elements.Goals as goal

pub returns-then-left-settled : goal.returns-then-left-settled
returns-then-left-settled c = (
  (λ h. let bad : false ≡ true = h in cc),
  (λ h. absurd (too_many c.args.times c.loop-element.left 0 _ c.args.tallies.now c.loop-element.element _ _ _ c.loop-element.invariant c.loop-element-test.true c.has_element.ensures c.if-has_element.true c.from-settled.ensures c.if-left-settled.true h)),
)
