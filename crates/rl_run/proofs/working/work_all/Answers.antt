use Rattle.std.proofs.Common.{rules, ◌≡◌, ◌<◌, length, subst, ap, sym, ◌∙◌, arith}
use denote.Exit.{unseen}
use denote.Param.Send.{Quiet-if}
use mir.Syntax.{of_param}
use Rattle.rl_run.specs.Callers.{IsCaller, IsAtEnd, who}
use Rattle.rl_run.specs.laws.RowLaws.{same_map}
use Rattle.rl_run.proofs.working.work_all.Goals as goal

pub for_each_mut-requires-clause-accepts : goal.for_each_mut-requires-clause-accepts
for_each_mut-requires-clause-accepts g c = λ lives within i p h e.
    (subst (λ z. IsCaller g.C.ShardCore.says c.args.shards.now z) (sym e) (c.requires i p.now h), (record { owned = c.type_bounds.send-C.owned; leaving = λ k. Quiet-if (k (of_param 0)) (unseen {D = g.row.C.Denot}) (unseen {D = g.row.C.Denot}) (λ x w. tt {0}) (λ x w. tt {0}) }, search rules, search rules, search rules, search rules, search rules))

pub returns-clause-callers : goal.returns-clause-callers
returns-clause-callers g c = λ k d h.
    let long : length c.for_each_mut.new.s ≡ length c.args.callers.now = search rules in
    let low : k < length c.args.callers.now = omega arith in
    let q = c.for_each_mut.ensures k d low in subst (λ z. IsCaller g.C.ShardCore.says c.args.shards.now z) q.1.left q.1.call.0

pub returns-clause-all_done : goal.returns-clause-all_done
returns-clause-all_done g c = λ k d h.
    let long : length c.for_each_mut.new.s ≡ length c.args.callers.now = search rules in
    let low : k < length c.args.callers.now = omega arith in
    let q = c.for_each_mut.ensures k d low in subst (λ z. IsAtEnd g.C.ShardCore.says c.args.shards.now z) q.1.left q.1.call.1

pub returns-clause-same : goal.returns-clause-same
returns-clause-same g c =
    same_map who c.args.callers.now c.for_each_mut.new.s (search rules)
    (λ i d h. let q = c.for_each_mut.ensures i d h in ap who (sym q.1.left) ∙ q.1.call.2 ∙ ap who q.1.argument_is)
