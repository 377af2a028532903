use Rattle.std.proofs.Common.{◌∙◌, ℕ, ap, replicate}
use Rattle.rl_check.specs.QueuesOf.{queues_all}
use Rattle.rl_check.proofs.WatchLaws.{nothing_seen, budgets_listed}
use Rattle.rl_check.proofs.events.Watch.new.Goals as goal

pub returns : goal.returns
returns c =
    let q = c.args.queues.now in
    let each = c.in_ok-budgets_of.ensures.each ∙ c.requires in
    nothing_seen (queues_all q) c.args.ranks _ _ _ (c.in_ok-vec.ensures.items_if_clones_equal (λ y e. e)) each
    (budgets_listed q.facts.queues q.shape.now q.home q.knobs _ each c.in_ok-budgets_of.ensures.budgets)
    (c.in_ok-vec-2.ensures.items_if_clones_equal (λ y e. e) ∙ ap (λ (n : ℕ). replicate n 0) c.requires)
