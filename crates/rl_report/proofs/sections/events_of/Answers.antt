use Rattle.std.proofs.Common.{sym, ◌∙◌}
use Rattle.std.proofs.lemmas.Result.{err_from_is_err_and}
use Rattle.rl_report.proofs.Loops.{no_line, bad_item, goes_on, while_step, while_end, run-events, replay-events}
use Rattle.rl_report.proofs.sections.events_of.Goals as goal

pub returns-then-not-replay : goal.returns-then-not-replay
returns-then-not-replay c = run-events c.args.naming.now c.args.replay c.args.lines.now c.new-events.result.items c.if-not-replay.true c.new-events.ensures.items

pub returns-in_err-line : goal.returns-in_err-line
returns-in_err-line c =
    let p = err_from_is_err_and c.from_residual.result c.from_residual.ensures.1 in
    rw (p.1, p.2) (replay-events _ _ _ c.if-not-replay.false ∙ no_line _ _ _ _ _ _ _ c.loop-lines.invariant (while_step _ _ _ _ _ (sym c.next_begins.ensures ∙ c.loop-lines-test.true)) c.in_err-line.ensures.leaves)

pub returns-in_err-event : goal.returns-in_err-event
returns-in_err-event c =
    let p = err_from_is_err_and c.from_residual-in_err-event.result c.from_residual-in_err-event.ensures.1 in
    rw (p.1, p.2) (replay-events _ _ _ c.if-not-replay.false ∙ bad_item _ _ _ _ _ _ _ _ _ c.loop-lines.invariant (while_step _ _ _ _ _ (sym c.next_begins.ensures ∙ c.loop-lines-test.true)) c.in_ok-line.ensures.leaves (sym c.in_err-event.ensures))

pub loop-lines-preserved : goal.loop-lines-preserved
loop-lines-preserved c =
    rw c.in_ok-push.ensures.items (goes_on _ _ _ _ _ _ _ _ _ c.loop-lines.invariant (while_step _ _ _ _ _ (sym c.next_begins.ensures ∙ c.loop-lines-test.true)) c.in_ok-line.ensures.leaves (sym c.in_ok-event.ensures))

pub returns : goal.returns
returns c = replay-events _ _ _ c.if-not-replay.false ∙ while_end _ _ _ _ _ _ _ c.loop-lines.invariant (sym c.next_begins.ensures ∙ c.loop-lines-test.false)
