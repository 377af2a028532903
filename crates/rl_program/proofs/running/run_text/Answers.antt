use Rattle.rl_program.specs.RunAnswer.{WasRun}
use Rattle.rl_inputs.proofs.ReadLemmas.{ended, still_read}
use Rattle.rl_program.proofs.RunningLemmas.{place_stops, calls_stop, memory_stops, was_run}
use Rattle.rl_program.proofs.running.run_text.Goals as goal

pub returns-in_err-place-clause-run : goal.returns-in_err-place-clause-run
returns-in_err-place-clause-run g c = ended (WasRun _ _) _ _ c.from_residual.ensures.1 (place_stops _ _ _ c.in_err-place.ensures.read)

pub returns-in_err-ops-clause-run : goal.returns-in_err-ops-clause-run
returns-in_err-ops-clause-run g c =
    ended (WasRun _ _) _ _ c.from_residual-in_err-ops.ensures.1
    (calls_stop _ _ _ _ c.in_ok-place.ensures.read (still_read (c.in_ok-place.ensures.same.files c.args.files.calls.now) c.in_err-ops.ensures.read))

pub returns-in_err-report-clause-run : goal.returns-in_err-report-clause-run
returns-in_err-report-clause-run g c =
    ended (WasRun _ _) _ _ c.from_residual-in_err-report.ensures.1
    (memory_stops _ _ _ _ c.in_ok-place.ensures.read (still_read (c.in_ok-place.ensures.same.files c.args.files.calls.now) c.in_ok-ops.ensures.read))

pub returns-in_err-report_text-clause-run : goal.returns-in_err-report_text-clause-run
returns-in_err-report_text-clause-run g c =
    ended (WasRun _ _) _ _ c.from_residual-in_err-report_text.ensures.1
    (memory_stops _ _ _ _ c.in_ok-place.ensures.read (still_read (c.in_ok-place.ensures.same.files c.args.files.calls.now) c.in_ok-ops.ensures.read))

pub returns-clause-run : goal.returns-clause-run
returns-clause-run g c =
    was_run _ _ c.report_laws.ensures.legal _ _ _ _ c.in_ok-ops.ensures.fits c.in_ok-place.ensures.read (still_read (c.in_ok-place.ensures.same.files c.args.files.calls.now) c.in_ok-ops.ensures.read)
    c.in_ok-report_text.ensures.text c.in_ok-report.ensures.lawful c.in_ok-report.ensures.made (c.in_ok-report_text.ensures.again c.in_ok-report.ensures.lawful.fits)
