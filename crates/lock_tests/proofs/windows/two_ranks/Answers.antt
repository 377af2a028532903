use Rattle.std.proofs.Common.{rules, subst, ◌∷◌, []}
use Rattle.rl_window.specs.Seats.{IsAll}
use Rattle.lock_tests.specs.Rounds.{rounds_rule}
use Rattle.lock_tests.proofs.PairLaws.{pair_of, pair_first, pair_second, pair_stepped}
use Rattle.lock_tests.proofs.windows.two_ranks.Goals as goal

pub go_both-begun-requires-clause-first : goal.go_both-begun-requires-clause-first
go_both-begun-requires-clause-first g c =
    let pair = pair_of rounds_rule c.in_ok-window.window c.in_ok-window.seats.items c.pop.new.self.items c.pop-2.new.self.items c.in-Some-pop.first c.in-Some.second c.in_ok-window.ensures.all.0 c.in_ok-window.ensures.all.1 (search rules) (search rules) (search rules) in
    pair_first rounds_rule c.in_ok-window.window c.in-Some-pop.first c.in-Some.second pair

pub go_both-begun-requires-clause-second : goal.go_both-begun-requires-clause-second
go_both-begun-requires-clause-second g c =
    let pair = pair_of rounds_rule c.in_ok-window.window c.in_ok-window.seats.items c.pop.new.self.items c.pop-2.new.self.items c.in-Some-pop.first c.in-Some.second c.in_ok-window.ensures.all.0 c.in_ok-window.ensures.all.1 (search rules) (search rules) (search rules) in
    pair_second rounds_rule c.in_ok-window.window c.in-Some-pop.first c.in-Some.second pair

pub close-requires-clause-all : goal.close-requires-clause-all
close-requires-clause-all g c =
    let pair = pair_of rounds_rule c.in_ok-window.window c.in_ok-window.seats.items c.pop.new.self.items c.pop-2.new.self.items c.in-Some-pop.first c.in-Some.second c.in_ok-window.ensures.all.0 c.in_ok-window.ensures.all.1 (search rules) (search rules) (search rules) in
    let went = pair_stepped rounds_rule c.in_ok-window.window c.in-Some-pop.first c.in-Some.second c.go_both-begun.new.first c.go_both-begun.new.second pair c.go_both-begun.ensures.first c.go_both-begun.ensures.second in
    let ended = pair_stepped rounds_rule c.in_ok-window.window c.go_both-begun.new.first c.go_both-begun.new.second c.end_rounds.new.first c.end_rounds.new.second went c.end_rounds.ensures.first c.end_rounds.ensures.second in
    subst (IsAll rounds_rule c.in_ok-window.window) {x = c.end_rounds.new.first ∷ c.end_rounds.new.second ∷ []} (search rules) ended.all
