use Rattle.std.proofs.Common.{sym, ◌∙◌}
use Rattle.std.proofs.lemmas.Result.{err_from_is_err_and}
use Rattle.rl_report.proofs.Loops.{no_line, bad_item, goes_on, while_step, while_end, replay-pairs, run-pairs}
use Rattle.rl_report.proofs.sections.pairs_of.Goals as goal

pub returns-then-replay : goal.returns-then-replay
returns-then-replay c = replay-pairs c.args.replay c.args.lines.now c.new-pairs.result.items c.if-replay.true c.new-pairs.ensures.items

pub returns-in_err-line : goal.returns-in_err-line
returns-in_err-line c =
    let p = err_from_is_err_and c.from_residual.result c.from_residual.ensures.1 in
    rw (p.1, p.2) (run-pairs _ _ c.if-replay.false ∙ no_line _ _ _ _ _ _ _ c.loop-last.invariant (while_step _ _ _ _ _ (sym c.next_begins.ensures ∙ c.loop-last-test.true)) c.in_err-line.ensures.leaves)

pub returns-in_err-pair : goal.returns-in_err-pair
returns-in_err-pair c =
    let p = err_from_is_err_and c.from_residual-in_err-pair.result c.from_residual-in_err-pair.ensures.1 in
    rw (p.1, p.2) (run-pairs _ _ c.if-replay.false ∙ bad_item _ _ _ _ _ _ _ _ _ c.loop-last.invariant (while_step _ _ _ _ _ (sym c.next_begins.ensures ∙ c.loop-last-test.true)) c.in_ok-line.ensures.leaves (sym c.in_err-pair.ensures))

pub loop-last-preserved : goal.loop-last-preserved
loop-last-preserved c =
    rw c.in_ok-push.ensures.items (goes_on _ _ _ _ _ _ _ _ _ c.loop-last.invariant (while_step _ _ _ _ _ (sym c.next_begins.ensures ∙ c.loop-last-test.true)) c.in_ok-line.ensures.leaves (sym c.in_ok-pair.ensures))

pub returns : goal.returns
returns c = run-pairs _ _ c.if-replay.false ∙ while_end _ _ _ _ _ _ _ c.loop-last.invariant (sym c.next_begins.ensures ∙ c.loop-last-test.false)
