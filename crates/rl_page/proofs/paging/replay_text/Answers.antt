-- The report, the state and the listing, one behind the other.
use Rattle.std.proofs.Common.{ap, ◌∙◌}
use Rattle.rl_report.specs.Naming.{naming_of}
use Rattle.rl_report.specs.Spelling.{report_spelling}
use Rattle.rl_locks.specs.Kinds.{lock_kind_of}
use Rattle.rl_program.specs.Replay.{report_of_replay}
use Rattle.rl_shown.specs.State.{state_with}
use Rattle.rl_shown.specs.Listing.{listing_with}
use Rattle.rl_page.specs.PageData.{shown_of}
use Rattle.rl_page.proofs.PageLaws.{two_behind}
use Rattle.rl_page.proofs.paging.replay_text.Goals as goal

pub returns : goal.returns
returns c =
    let place = c.args.place.now in
    let schedule = c.args.schedule.now in
    let ops = c.args.ops in
    let from = c.args.window.from in
    two_behind
    (report_spelling (naming_of place) (report_of_replay place ops schedule)) (state_with (lock_kind_of place.lock).defined place ops schedule from)
    (listing_with (lock_kind_of place.lock).defined place ops schedule (shown_of c.args.window))
    c.in_ok-out.out.items c.extend_from_slice.new.self.items c.extend_from_slice-2.new.self.items c.as_slice.result.now c.as_slice-2.result.now
    (c.in_ok-out.ensures ∙ ap (λ o. report_spelling (naming_of place) (report_of_replay place o schedule)) c.in_ok-copied.ensures)
    c.in_ok-extend_from_slice.ensures.items
    (c.as_slice.ensures.value ∙ c.in_ok-state.ensures ∙ ap (λ o. state_with (lock_kind_of place.lock).defined place o schedule from) c.in_ok-copied-2.ensures)
    c.in_ok-extend_from_slice-2.ensures.items
    (c.as_slice-2.ensures.value ∙ c.in_ok-listing.ensures ∙ ap (λ w. listing_with (lock_kind_of place.lock).defined place ops schedule w) c.shown_of.ensures)
