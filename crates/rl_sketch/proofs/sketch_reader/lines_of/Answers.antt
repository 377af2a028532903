use Rattle.std.proofs.Common.{sym, ◌∙◌}
use Rattle.std.proofs.lemmas.Result.{err_from_is_err_and}
use Rattle.rl_ops.proofs.BodyLoop.{no_line, bad_end, good_end, goes_on}
use Rattle.rl_sketch.proofs.SketchLaws.{gathered-nil, bad_read}
use Rattle.rl_sketch.proofs.sketch_reader.lines_of.Goals as goal

pub read-init : goal.read-init
read-init c = rw (c.new-taken.ensures, c.new-stopped.ensures.items) (gathered-nil _)

pub returns-in_err-line : goal.returns-in_err-line
returns-in_err-line c =
    let p = err_from_is_err_and c.from_residual.result c.from_residual.ensures.1 in
    rw (p.1, p.2) (no_line _ _ _ _ _ _ _ _ c.read.invariant c.in_err-line.ensures.next)

pub returns-in_err-end : goal.returns-in_err-end
returns-in_err-end c =
    let p = err_from_is_err_and c.from_residual-in_err-end.result c.from_residual-in_err-end.ensures.1 in
    rw (p.1, p.2) (bad_end _ _ _ _ _ _ _ _ _ _ c.read.invariant c.in_ok-line.ensures.next (sym c.begins.ensures ∙ c.if-begins.true) (sym c.in_err-end.ensures))

pub returns-then-begins : goal.returns-then-begins
returns-then-begins c = good_end _ _ _ _ _ _ _ _ _ c.read.invariant c.in_ok-line.ensures.next (sym c.begins.ensures ∙ c.if-begins.true) (sym c.in_ok-end.ensures)

pub returns-in_err-read : goal.returns-in_err-read
returns-in_err-read c =
    let p = err_from_is_err_and c.from_residual-in_err-read.result c.from_residual-in_err-read.ensures.1 in
    rw (p.1, p.2) (bad_read _ _ _ _ _ _ _ _ _ _ c.read.invariant c.in_ok-line.ensures.next (sym c.begins.ensures ∙ c.if-begins.false) (rw c.as_slice.ensures.value at c.in_err-read.ensures))

pub read-preserved : goal.read-preserved
read-preserved c = rw (c.in_ok-push.ensures, c.in_ok-add_stopped.ensures, c.in_ok-line.ensures.read) (goes_on _ _ _ _ _ _ _ _ _ _ c.read.invariant c.in_ok-line.ensures.next (sym c.begins.ensures ∙ c.if-begins.false) (rw c.as_slice.ensures.value at c.in_ok-read.ensures))
