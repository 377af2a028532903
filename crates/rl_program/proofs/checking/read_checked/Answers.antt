use Rattle.std.proofs.Common.{◌∙◌}
use Rattle.rl_inputs.proofs.ReadLemmas.{ended, still_read}
use Rattle.rl_program.specs.CheckAnswer.{WereChecked}
use Rattle.rl_program.proofs.CheckLaws.{place_stops, calls_stop, report_stops, all_checked}
use Rattle.rl_program.proofs.checking.read_checked.Goals as goal

pub returns-in_err-place-clause-read : goal.returns-in_err-place-clause-read
returns-in_err-place-clause-read g c = ended (WereChecked _ _) _ _ c.from_residual.ensures.1 (place_stops _ _ _ c.in_err-place.ensures.read)

pub returns-in_err-ops-clause-read : goal.returns-in_err-ops-clause-read
returns-in_err-ops-clause-read g c =
    ended (WereChecked _ _) _ _ c.from_residual-in_err-ops.ensures.1
    (calls_stop _ _ _ _ c.in_ok-place.ensures.read (still_read (c.in_ok-place.ensures.same.files c.args.files.calls.now) c.in_err-ops.ensures.read))

pub returns-in_err-report-clause-read : goal.returns-in_err-report-clause-read
returns-in_err-report-clause-read g c =
    let name = c.args.files.report.now in
    ended (WereChecked _ _) _ _ c.from_residual-in_err-report.ensures.1
    (report_stops _ _ _ _ _ c.in_ok-place.ensures.read
    (still_read (c.in_ok-place.ensures.same.files c.args.files.calls.now) c.in_ok-ops.ensures.read)
    (still_read (c.in_ok-ops.ensures.same.files name ∙ c.in_ok-place.ensures.same.files name) c.in_err-report.ensures.read))

pub returns-clause-read : goal.returns-clause-read
returns-clause-read g c =
    let name = c.args.files.report.now in
    all_checked _ _ _ _ _ c.in_ok-place.ensures.read
    (still_read (c.in_ok-place.ensures.same.files c.args.files.calls.now) c.in_ok-ops.ensures.read)
    (still_read (c.in_ok-ops.ensures.same.files name ∙ c.in_ok-place.ensures.same.files name) c.in_ok-report.ensures.read)
