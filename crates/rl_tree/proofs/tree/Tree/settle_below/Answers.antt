-- One settlement more is told.
use Rattle.std.proofs.Common.{rules, ◌∙◌, ◌+◌, ◌-◌, ◌++◌, ap}
use Rattle.rl_tree.specs.Tree.{settles_below}
use Rattle.rl_tree.specs.Elements.{tree_of}
use Rattle.rl_tree.proofs.CodeLaws.{settles_next}
use Rattle.rl_tree.proofs.tree.Tree.settle_below.Goals as goal

pub loop-step-preserved : goal.loop-step-preserved
loop-step-preserved c =
    let T = tree_of c.args.self.now.rooted in
    let n = settles_next T c.args.view.now c.loop-step.events.items c.args.level c.loop-step.step (c.args.level - 1 - c.loop-step.step) c.behind-self.inside.queue c.member_at-member.result (search rules) (search rules) (ap (λ z. z.queue) (c.behind-self.view_is ∙ c.names.ensures) ∙ c.element_at-element.ensures) c.member_at-member.ensures in
    (ap (λ z. z ++ settles_below T c.args.view.now (c.args.level - (c.loop-step.step + 1))) c.push.ensures.items ∙ n ∙ c.loop-step.invariant.0, search rules)
