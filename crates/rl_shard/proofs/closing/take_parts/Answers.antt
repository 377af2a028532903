-- As many queues as the first seat has tallies for.
use Rattle.std.proofs.Common.{◌≡◌, length, slice_get, Some, None, ap, sym, subst, ◌∙◌, rules}
use Rattle.std.proofs.lemmas.Option.{same_Some}
use Rattle.rl_shard.specs.Shards.{tallies_at}
use Rattle.rl_shard.specs.Closing.{AreTotals}
use Rattle.rl_shard.proofs.closing.take_parts.Goals as goal
use Rattle.rl_shard.proofs.closing.take_parts.Goals.{in-Some, in-None}

pub returns-clause-queues : goal.returns-clause-queues
returns-clause-queues g c = λ s get.
    elim c.match-first.branch [
      | in-Some w ↦
          let here : slice_get c.args.seats.now 0 ≡ Some w.in-Some.seat.now = search rules in
          let same = same_Some _ _ (sym here ∙ get) in
          subst (λ n. AreTotals c.args.seats.now n c.in_ok-totals.field-0.items) (w.queues-is ∙ w.queues-queues.ensures ∙ ap (λ z. length (tallies_at z)) same) c.in_ok-totals.ensures
      | in-None w ↦
          let none : slice_get c.args.seats.now 0 ≡ None = search rules in
          let bad : None ≡ Some s = sym none ∙ get in
          cc
    ]
