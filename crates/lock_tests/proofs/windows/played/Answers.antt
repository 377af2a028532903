use Rattle.std.proofs.Common.{rules, subst, ◌∷◌, []}
use Rattle.rl_window.specs.Seats.{IsAll}
use Rattle.lock_tests.specs.Rounds.{rounds_rule}
use Rattle.lock_tests.proofs.PairLaws.{pair_of, pair_first, pair_second, pair_stepped}
use Rattle.lock_tests.proofs.windows.played.Goals as goal

pub begin-requires : goal.begin-requires
begin-requires c =
    let pair = pair_of rounds_rule c.in_ok-window.window c.in_ok-window.seats.items c.pop.new.self.items c.pop-2.new.self.items c.in-Some-pop.first c.in-Some.second c.in_ok-window.ensures.all.0 c.in_ok-window.ensures.all.1 (search rules) (search rules) (search rules) in
    let both = pair_first rounds_rule c.in_ok-window.window c.in-Some-pop.first c.in-Some.second pair in
    record { seat = both.0; kept = both.1 }

pub begin-requires-2 : goal.begin-requires-2
begin-requires-2 c =
    let pair = pair_of rounds_rule c.in_ok-window.window c.in_ok-window.seats.items c.pop.new.self.items c.pop-2.new.self.items c.in-Some-pop.first c.in-Some.second c.in_ok-window.ensures.all.0 c.in_ok-window.ensures.all.1 (search rules) (search rules) (search rules) in
    let both = pair_second rounds_rule c.in_ok-window.window c.in-Some-pop.first c.in-Some.second pair in
    record { seat = both.0; kept = both.1 }

pub close-requires-clause-all : goal.close-requires-clause-all
close-requires-clause-all c =
    let pair = pair_of rounds_rule c.in_ok-window.window c.in_ok-window.seats.items c.pop.new.self.items c.pop-2.new.self.items c.in-Some-pop.first c.in-Some.second c.in_ok-window.ensures.all.0 c.in_ok-window.ensures.all.1 (search rules) (search rules) (search rules) in
    let began = pair_stepped rounds_rule c.in_ok-window.window c.in-Some-pop.first c.in-Some.second c.begin.new.seat c.begin-2.new.seat pair
    (c.begin.ensures.seat, c.begin.ensures.kept, c.begin.ensures.rank) (c.begin-2.ensures.seat, c.begin-2.ensures.kept, c.begin-2.ensures.rank) in
    let ended = pair_stepped rounds_rule c.in_ok-window.window c.begin.new.seat c.begin-2.new.seat c.first_difference-difference.new.first c.first_difference-difference.new.second began c.first_difference-difference.ensures.first c.first_difference-difference.ensures.second in
    subst (IsAll rounds_rule c.in_ok-window.window) {x = c.first_difference-difference.new.first ∷ c.first_difference-difference.new.second ∷ []} (search rules) ended.all
