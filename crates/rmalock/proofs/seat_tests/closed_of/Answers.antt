-- The settings of a lock that was read suit it.
use Rattle.std.proofs.Common.{ap, sym, ◌∙◌}
use Rattle.rl_place.specs.LockWords.{name_of}
use Rattle.rmalock.proofs.seat_tests.closed_of.Goals as goal

pub closed_by_threads-requires-in-Mcs-clause-knobs : goal.closed_by_threads-requires-in-Mcs-clause-knobs
closed_by_threads-requires-in-Mcs-clause-knobs g c κs within =
    c.settings_suit.ensures.mcs c.in_ok-place.place c.in_ok-place.ensures.proper (ap (λ p. name_of p.lock) (sym c.place.view_is) ∙ ap name_of c.in-Mcs.is)

pub closed_by_threads-requires-in-Rw-clause-knobs : goal.closed_by_threads-requires-in-Rw-clause-knobs
closed_by_threads-requires-in-Rw-clause-knobs g c κs within =
    c.settings_suit.ensures.rw c.in_ok-place.place c.in_ok-place.ensures.proper (ap (λ p. name_of p.lock) (sym c.place.view_is) ∙ ap name_of c.in-Rw.is)
