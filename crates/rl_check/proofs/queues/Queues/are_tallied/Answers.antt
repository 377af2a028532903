use Rattle.std.proofs.Common.{◌≡◌, true, false, refl, sym, ◌∙◌}
use Rattle.rl_check.proofs.TallyLaws.{all_tallied, one_not}
use Rattle.rl_check.proofs.queues.Queues.are_tallied.Goals as goal

pub returns-then-not-is_tallied : goal.returns-then-not-is_tallied
returns-then-not-is_tallied c =
    let q = c.args.self.now in (
      (λ h. let bad : false ≡ true = h in cc),
      (λ h. absurd (one_not q.facts.queues q.shape.now q.home q.knobs q.facts.spares c.args.entries.now c.args.tallies.now c.requires.each c.loop-queue.queue c.loop-queue-test.true
          (λ holds. let bad : false ≡ true = sym c.if-not-is_tallied.true ∙ c.is_tallied.ensures.1 holds in cc) h)),
    )

pub returns : goal.returns
returns c =
    let q = c.args.self.now in
    ((λ _. all_tallied q.facts.queues q.shape.now q.home q.knobs q.facts.spares c.args.entries.now c.args.tallies.now c.requires.each c.loop-queue.queue c.loop-queue-test.false c.loop-queue.invariant), (λ _. refl))
