use Rattle.std.proofs.Common.{sym, ◌∙◌}
use Rattle.std.proofs.lemmas.Result.{err_from_is_err_and}
use Rattle.rl_ops.proofs.BodyLoop.{no_line, bad_end, good_end, bad_item, goes_on}
use Rattle.rl_ops.proofs.ScheduleLaws.{gathered-nil}
use Rattle.rl_ops.proofs.schedule_reader.turns_of.Goals as goal

pub loop-turn-init : goal.loop-turn-init
loop-turn-init c = rw (c.new-turns.ensures, c.new-so_far.ensures) (gathered-nil _)

pub returns-in_err-line : goal.returns-in_err-line
returns-in_err-line c =
    let p = err_from_is_err_and c.from_residual-in_err-line.result c.from_residual-in_err-line.ensures.1 in
    rw (p.1, p.2) (no_line _ _ _ _ _ _ _ _ c.loop-turn.invariant (rw c.in_default.ensures at c.in_err-line.ensures.next))

pub returns-in_err-end : goal.returns-in_err-end
returns-in_err-end c =
    let p = err_from_is_err_and c.from_residual-in_err-end.result c.from_residual-in_err-end.ensures.1 in
    rw (p.1, p.2) (bad_end _ _ _ _ _ _ _ _ _ _ c.loop-turn.invariant (rw c.in_default.ensures at c.in_ok-line.ensures.next) (sym c.begins.ensures ∙ c.if-begins.true) (sym c.in_err-end.ensures))

pub returns-then-begins : goal.returns-then-begins
returns-then-begins c = good_end _ _ _ _ _ _ _ _ _ c.loop-turn.invariant (rw c.in_default.ensures at c.in_ok-line.ensures.next) (sym c.begins.ensures ∙ c.if-begins.true) (sym c.in_ok-end.ensures)

pub returns-in_err-turn : goal.returns-in_err-turn
returns-in_err-turn c =
    let p = err_from_is_err_and c.from_residual-in_err-turn.result c.from_residual-in_err-turn.ensures.1 in
    rw (p.1, p.2) (bad_item _ _ _ _ _ _ _ _ _ _ c.loop-turn.invariant (rw c.in_default.ensures at c.in_ok-line.ensures.next) (sym c.begins.ensures ∙ c.if-begins.false) (sym c.in_err-turn.ensures.value))

pub loop-turn-preserved : goal.loop-turn-preserved
loop-turn-preserved c = rw (c.in_ok-push-2.ensures.ok, c.in_ok-add-2.ensures, rw c.in_default.ensures at c.in_ok-line.ensures.read) (goes_on _ _ _ _ _ _ _ _ _ _ c.loop-turn.invariant (rw c.in_default.ensures at c.in_ok-line.ensures.next) (sym c.begins.ensures ∙ c.if-begins.false) (sym c.in_ok-turn.ensures.value))

pub loop-turn-preserved-in-Some : goal.loop-turn-preserved-in-Some
loop-turn-preserved-in-Some c =
    let turn = c.in-Some.ensures in
    rw (c.in_ok-push.ensures.ok, c.in_ok-add.ensures, turn.read) (goes_on _ _ _ _ _ _ _ _ _ _ c.loop-turn.invariant turn.next turn.goes_on turn.same)
