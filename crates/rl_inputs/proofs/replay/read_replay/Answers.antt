use Rattle.std.proofs.Common.{◌∙◌}
use Rattle.rl_inputs.specs.Files.{WereRead}
use Rattle.rl_inputs.proofs.ReadLemmas.{ended, still_read}
use Rattle.rl_inputs.proofs.ReplayLemmas.{place_stops, calls_stop, schedule_stops, all_read}
use Rattle.rl_inputs.proofs.replay.read_replay.Goals as goal

pub returns-in_err-place-clause-read : goal.returns-in_err-place-clause-read
returns-in_err-place-clause-read g c = ended (WereRead _ _) _ _ c.from_residual.ensures.1 (place_stops _ _ _ c.in_err-place.ensures.read)

pub returns-in_err-ops-clause-read : goal.returns-in_err-ops-clause-read
returns-in_err-ops-clause-read g c =
    ended (WereRead _ _) _ _ c.from_residual-in_err-ops.ensures.1
    (calls_stop _ _ _ _ c.in_ok-place.ensures.read (still_read (c.in_ok-place.ensures.same.files c.args.files.calls.now) c.in_err-ops.ensures.read))

pub returns-in_err-schedule-clause-read : goal.returns-in_err-schedule-clause-read
returns-in_err-schedule-clause-read g c =
    let name = c.args.files.schedule.now in
    ended (WereRead _ _) _ _ c.from_residual-in_err-schedule.ensures.1
    (schedule_stops _ _ _ _ _ c.in_ok-place.ensures.read
    (still_read (c.in_ok-place.ensures.same.files c.args.files.calls.now) c.in_ok-ops.ensures.read)
    (still_read (c.in_ok-ops.ensures.same.files name ∙ c.in_ok-place.ensures.same.files name) c.in_err-schedule.ensures.read))

pub returns-clause-read : goal.returns-clause-read
returns-clause-read g c =
    let name = c.args.files.schedule.now in
    all_read _ _ _ _ _ c.in_ok-place.ensures.read
    (still_read (c.in_ok-place.ensures.same.files c.args.files.calls.now) c.in_ok-ops.ensures.read)
    (still_read (c.in_ok-ops.ensures.same.files name ∙ c.in_ok-place.ensures.same.files name) c.in_ok-schedule.ensures.read)
