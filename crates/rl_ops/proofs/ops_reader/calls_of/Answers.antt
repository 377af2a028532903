use Rattle.std.proofs.Common.{sym, ◌∙◌, arith}
use Rattle.std.proofs.lemmas.List.{length-replicate}
use Rattle.std.proofs.lemmas.Result.{err_from_is_err_and}
use Rattle.rl_ops.proofs.BodyLoop.{no_line, bad_end, good_end, bad_item, goes_on}
use Rattle.rl_ops.proofs.LineLaws.{read-fits}
use Rattle.rl_ops.proofs.OpsLaws.{calls_at-gathered, with_line-ranks, count-after}
use Rattle.rl_ops.proofs.ops_reader.calls_of.Goals as goal

pub loop-read-init : goal.loop-read-init
loop-read-init c =
    let start = c.new-progress.ensures in
    record {
      few = rw start (omega arith);
      ranks = rw c.in_ok-ops.ensures.calls (length-replicate _ _);
      sizes = rw c.in_ok-ops.ensures.sizes (length-replicate _ _);
      so_far = rw start (calls_at-gathered c.args.version c.args.ranks c.args.shards c.args.lines.now.read c.args.lines.now.rows c.in_ok-ops.ops c.in_ok-ops.ensures.calls c.in_ok-ops.ensures.sizes);
    }

pub returns-in_err-line : goal.returns-in_err-line
returns-in_err-line c =
    let p = err_from_is_err_and c.from_residual-in_err-line.result c.from_residual-in_err-line.ensures.1 in
    rw (p.1, p.2) (no_line _ _ _ _ _ _ _ _ c.loop-read.invariant.so_far (rw c.in_default.ensures at c.in_err-line.ensures.next))

pub returns-in_err-end : goal.returns-in_err-end
returns-in_err-end c =
    let p = err_from_is_err_and c.from_residual-in_err-end.result c.from_residual-in_err-end.ensures.1 in
    rw (p.1, p.2) (bad_end _ _ _ _ _ _ _ _ _ _ c.loop-read.invariant.so_far (rw c.in_default.ensures at c.in_ok-line.ensures.next) (sym c.is_end.ensures ∙ c.if-is_end.true) (sym c.in_err-end.ensures))

pub returns-then-is_end : goal.returns-then-is_end
returns-then-is_end c = good_end _ _ _ _ _ _ _ _ _ c.loop-read.invariant.so_far (rw c.in_default.ensures at c.in_ok-line.ensures.next) (sym c.is_end.ensures ∙ c.if-is_end.true) (sym c.in_ok-end.ensures)

pub returns-in_err-read : goal.returns-in_err-read
returns-in_err-read c =
    let p = err_from_is_err_and c.from_residual-in_err-read.result c.from_residual-in_err-read.ensures.1 in
    rw (p.1, p.2) (bad_item _ _ _ _ _ _ _ _ _ _ c.loop-read.invariant.so_far (rw c.in_default.ensures at c.in_ok-line.ensures.next) (sym c.is_end.ensures ∙ c.if-is_end.false) (sym c.in_err-read.ensures))

pub take-requires-clause-there : goal.take-requires-clause-there
take-requires-clause-there c =
    let fits = read-fits _ _ _ _ _ c.in-Some.read c.in-Some.ensures.same in
    rw c.loop-read.invariant.ranks fits.0

pub take-requires-in-loop-read-clause-there : goal.take-requires-in-loop-read-clause-there
take-requires-in-loop-read-clause-there c =
    let fits = read-fits _ _ _ _ _ c.in_ok-read.read (sym c.in_ok-read.ensures) in
    rw c.loop-read.invariant.ranks fits.0

pub loop-read-preserved : goal.loop-read-preserved
loop-read-preserved c =
    let fits = read-fits _ _ _ _ _ c.in_ok-read.read (sym c.in_ok-read.ensures) in
    let kept = with_line-ranks c.loop-read.ops c.in_ok-read.read in
    record {
      few = rw c.after-progress-in-loop-read.ensures (count-after c.args.shards c.loop-read.progress c.in_ok-read.read fits.1);
      ranks = rw c.in_ok-take-2.ensures (kept.0 ∙ c.loop-read.invariant.ranks);
      sizes = rw c.in_ok-take-2.ensures (kept.1 ∙ c.loop-read.invariant.sizes);
      so_far = rw (c.in_ok-take-2.ensures, c.after-progress-in-loop-read.ensures, rw c.in_default.ensures at c.in_ok-line.ensures.read) (goes_on _ _ _ _ _ _ _ _ _ _ c.loop-read.invariant.so_far (rw c.in_default.ensures at c.in_ok-line.ensures.next) (sym c.is_end.ensures ∙ c.if-is_end.false) (sym c.in_ok-read.ensures));
    }

pub loop-read-preserved-in-Some : goal.loop-read-preserved-in-Some
loop-read-preserved-in-Some c =
    let line = c.in-Some.ensures in
    let fits = read-fits _ _ _ _ _ c.in-Some.read line.same in
    let kept = with_line-ranks c.loop-read.ops c.in-Some.read in
    record {
      few = rw c.after-progress.ensures (count-after c.args.shards c.loop-read.progress c.in-Some.read fits.1);
      ranks = rw c.in_ok-take.ensures (kept.0 ∙ c.loop-read.invariant.ranks);
      sizes = rw c.in_ok-take.ensures (kept.1 ∙ c.loop-read.invariant.sizes);
      so_far = rw (c.in_ok-take.ensures, c.after-progress.ensures, line.read) (goes_on _ _ _ _ _ _ _ _ _ _ c.loop-read.invariant.so_far line.next line.goes_on line.same);
    }
