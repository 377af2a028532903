use Rattle.std.proofs.Common.{sym, ◌∙◌, arith}
use Rattle.std.proofs.lemmas.Result.{err_from_is_err_and}
use Rattle.rl_place.proofs.RankLoop.{no_line, bad_rank, last, goes_on}
use Rattle.rl_place.proofs.sections.ranks_of.Goals as goal

pub returns-in_err-line-clause-value : goal.returns-in_err-line-clause-value
returns-in_err-line-clause-value c =
    let p = err_from_is_err_and c.from_residual.result c.from_residual.ensures.1 in
    rw (p.1, p.2) (no_line _ _ _ _ _ c.loop-paths.invariant.so_far c.in_err-line.ensures.leaves)

pub returns-in_err-path-clause-value : goal.returns-in_err-path-clause-value
returns-in_err-path-clause-value c =
    let p = err_from_is_err_and c.from_residual-in_err-path.result c.from_residual-in_err-path.ensures.1 in
    rw (p.1, p.2) (bad_rank _ _ _ _ _ _ _ _ c.loop-paths.invariant.so_far c.in_ok-line.ensures.leaves (c.len.ensures ∙ c.loop-paths.paths.ok.0) (sym c.in_err-path.ensures.value))

pub returns-then-next_begins-clause-value : goal.returns-then-next_begins-clause-value
returns-then-next_begins-clause-value c =
    rw c.in_ok-push.ensures.items (last _ _ _ _ _ _ _ _ c.loop-paths.invariant.so_far c.in_ok-line.ensures.leaves (c.len.ensures ∙ c.loop-paths.paths.ok.0) (sym c.in_ok-path.ensures.value) (sym c.next_begins.ensures ∙ c.if-next_begins.true))

pub loop-paths-preserved : goal.loop-paths-preserved
loop-paths-preserved c = record {
  few = omega (arith, c.in_ok-push.ensures.len, c.in_ok-path.ensures.few, c.len.ensures, c.push.new.self.ok.0);
  so_far = rw c.in_ok-push.ensures.items (goes_on _ _ _ _ _ _ _ _ c.loop-paths.invariant.so_far c.in_ok-line.ensures.leaves (c.len.ensures ∙ c.loop-paths.paths.ok.0) (sym c.in_ok-path.ensures.value) (sym c.next_begins.ensures ∙ c.if-next_begins.false));
}
