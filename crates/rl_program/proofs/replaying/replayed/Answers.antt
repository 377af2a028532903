use Rattle.std.proofs.Common.{Ok, ◌∙◌, ap, subst}
use Rattle.rl_report.specs.Naming.{naming_of}
use Rattle.rl_report.specs.Spelling.{report_spelling}
use Rattle.rl_check.specs.LawfulReplays.{IsLawfulReplay}
use Rattle.rl_check.specs.Legal.{IsLegalReport}
use Rattle.rl_program.specs.Answer.{WasReplayed}
use Rattle.rl_inputs.proofs.ReadLemmas.{ended, still_read}
use Rattle.rl_program.proofs.ReplayLemmas.{place_stops, calls_stop, schedule_stops, memory_stops, all_read}
use Rattle.rl_program.proofs.replaying.replayed.Goals as goal

pub returns-in_err-place-clause-replayed : goal.returns-in_err-place-clause-replayed
returns-in_err-place-clause-replayed g c = ended (WasReplayed _ _) _ _ c.from_residual.ensures.1 (place_stops _ _ _ c.in_err-place.ensures.read)

pub returns-in_err-ops-clause-replayed : goal.returns-in_err-ops-clause-replayed
returns-in_err-ops-clause-replayed g c =
    ended (WasReplayed _ _) _ _ c.from_residual-in_err-ops.ensures.1
    (calls_stop _ _ _ _ c.in_ok-place.ensures.read (still_read (c.in_ok-place.ensures.same.files c.args.files.calls.now) c.in_err-ops.ensures.read))

pub returns-in_err-schedule-clause-replayed : goal.returns-in_err-schedule-clause-replayed
returns-in_err-schedule-clause-replayed g c =
    let name = c.args.files.schedule.now in
    let calls = still_read (c.in_ok-place.ensures.same.files c.args.files.calls.now) c.in_ok-ops.ensures.read in
    ended (WasReplayed _ _) _ _ c.from_residual-in_err-schedule.ensures.1
    (schedule_stops _ _ _ _ _ c.in_ok-place.ensures.read calls (still_read (c.in_ok-ops.ensures.same.files name ∙ c.in_ok-place.ensures.same.files name) c.in_err-schedule.ensures.read))

pub returns-in_err-report-clause-replayed : goal.returns-in_err-report-clause-replayed
returns-in_err-report-clause-replayed g c =
    ended (WasReplayed _ _) _ _ c.from_residual-in_err-report.ensures.1
    (memory_stops _ _ _ _ _ c.in_ok-place.ensures.read (still_read (c.in_ok-place.ensures.same.files _) c.in_ok-ops.ensures.read)
    (still_read (c.in_ok-ops.ensures.same.files _ ∙ c.in_ok-place.ensures.same.files _) c.in_ok-schedule.ensures.read))

pub returns-in_err-report_text-clause-replayed : goal.returns-in_err-report_text-clause-replayed
returns-in_err-report_text-clause-replayed g c =
    ended (WasReplayed _ _) _ _ c.from_residual-in_err-report_text.ensures.1
    (memory_stops _ _ _ _ _ c.in_ok-place.ensures.read (still_read (c.in_ok-place.ensures.same.files _) c.in_ok-ops.ensures.read)
    (still_read (c.in_ok-ops.ensures.same.files _ ∙ c.in_ok-place.ensures.same.files _) c.in_ok-schedule.ensures.read))

pub returns-clause-replayed : goal.returns-clause-replayed
returns-clause-replayed g c =
    let name = c.args.files.schedule.now in
    all_read _ _ _ _ _ _ c.in_ok-place.ensures.read (still_read (c.in_ok-place.ensures.same.files c.args.files.calls.now) c.in_ok-ops.ensures.read)
    (still_read (c.in_ok-ops.ensures.same.files name ∙ c.in_ok-place.ensures.same.files name) c.in_ok-schedule.ensures.read)
    (c.in_ok-report_text.ensures.text ∙ ap (report_spelling (naming_of c.in_ok-place.place)) c.in_ok-report.ensures.report) c.in_ok-report.ensures.kept
    (subst (IsLawfulReplay c.in_ok-place.place c.in_ok-ops.ops) c.in_ok-report.ensures.report c.in_ok-report.ensures.lawful)
    (subst (IsLegalReport c.in_ok-place.place c.in_ok-ops.ops) c.in_ok-report.ensures.report c.in_ok-report.ensures.legal)
    (c.in_ok-report_text.ensures.again c.in_ok-report.ensures.lawful.fits ∙ ap (λ r. Ok r) c.in_ok-report.ensures.report)
