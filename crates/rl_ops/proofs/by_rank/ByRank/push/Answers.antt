use Rattle.std.proofs.Common.{arith, ap, length}
use Rattle.std.proofs.lemmas.List.{length-map}
use Rattle.std.proofs.lemmas.Result.{err_from_is_err_and}
use Rattle.rl_ops.proofs.RankLemmas.{item_added, item_kept}
use Rattle.rl_ops.proofs.by_rank.ByRank.push.Goals as goal

pub returns-in_err-append-clause-err : goal.returns-in_err-append-clause-err
returns-in_err-append-clause-err g c =
    let p = err_from_is_err_and c.from_residual.result c.from_residual.ensures.1 in
    rw (p.1, ← c.self.view_is) (item_kept (λ v. v.items) c.self.inside.lists.items c.args.rank c.index_mut-list.result.now c.append.new.list c.index_mut-list.ensures.value c.in_err-append.ensures.err)

pub returns-clause-ok : goal.returns-clause-ok
returns-clause-ok g c = rw (← c.self.view_is) (item_added (λ v. v.items) c.self.inside.lists.items c.args.rank c.index_mut-list.result.now c.append.new.list c.args.item (omega (arith, c.requires, simp length-map at (ap length c.self.view_is))) c.index_mut-list.ensures.value c.in_ok-append.ensures.ok)
