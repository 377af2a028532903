use Rattle.std.proofs.Common.{length, ap, sym, subst, ◌∙◌, ⊎_elim, arith}
use Rattle.rl_run.specs.Callers.{AllClosed, Opens, HasNone}
use Rattle.rl_run.specs.laws.CallerLaws.{ended}
use Rattle.rl_run.proofs.caller.Caller.step.Goals as goal

pub returns-clause-finished : goal.returns-clause-finished
returns-clause-finished g c = (
  λ f.
      let rests = c.step_last.ensures.finished f in
      ⊎_elim
      (λ (o : Opens g.C.ShardCore.says c.args.shards.now c.args.self.now c.open_due.new.self). absurd (o.is_open rests))
      (λ (h : HasNone g.C.ShardCore.says c.args.shards.now c.args.self.now c.open_due.new.self).
      let was = subst (λ d. AllClosed g.C.ShardCore.says c.args.shards.now d.seats.items) h.stays rests in (was, h.none_left was))
      c.open_due.ensures.due,
  λ p. ⊎_elim
      (λ (o : Opens g.C.ShardCore.says c.args.shards.now c.args.self.now c.open_due.new.self). absurd (let l = o.left in let e = p.1 in omega arith))
      (λ (h : HasNone g.C.ShardCore.says c.args.shards.now c.args.self.now c.open_due.new.self). c.step_last.ensures.closed (subst (λ d. AllClosed g.C.ShardCore.says c.args.shards.now d.seats.items) (sym h.stays) p.0))
      c.open_due.ensures.due,
)

pub returns-clause-all_done : goal.returns-clause-all_done
returns-clause-all_done g c = λ f.
    let rests = c.step_last.ensures.finished f in
    ended g.C.ShardCore.says g.met.C.ShardCore.shard_laws c.args.shards.now c.step_last.new.self c.step_last.ensures.caller (c.step_last.ensures.still rests)
    (c.step_last.ensures.steps.opened_is ∙ c.open_due.ensures.all rests ∙ ap (λ w. length w.1) (sym c.step_last.ensures.same))
