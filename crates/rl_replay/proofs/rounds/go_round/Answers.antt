-- The rounds, and one step more where their number is odd.
use Rattle.std.proofs.Common.{◌≡◌, ◌+◌, ◌/◌, ◌<◌, ◌≤◌, length, replicate, ap, sym, ◌∙◌, subst, arith}
use Rattle.rl_step.specs.Answers.{steps_made}
use Rattle.rl_machine.specs.laws.ReplayLaws.{turn_counts}
use Rattle.rl_machine.specs.Rested.{IsInRound, GoesRound}
use Rattle.rl_machine.specs.Running.{running}
use Rattle.rl_machine.specs.Run.{stepped, run_of}
use Rattle.rl_replay.specs.Rested.{Rested}
use Rattle.rl_replay.specs.laws.RoundLaws.{round_with, goes_with}
use Rattle.rl_replay.specs.laws.RunLaws.{run_end}
use Rattle.rl_replay.proofs.rounds.go_round.Goals as goal
use Rattle.rl_replay.proofs.rounds.go_round.Goals.{After-count_rounds}
use Rattle.rl_replay.proofs.rounds.go_round.Given.{Over}

pub shows_round-requires : goal.shows_round-requires
shows_round-requires g c =
    record {
      in_round = (
        c.args.rank,
        subst (Rested g.C.Resting.with_sight (running g.C.ShardCore.says c.args.machine.now) c.args.rank)
            c.in-Round.is c.requires.in_round,
      );
    }

pub count_rounds-requires : goal.count_rounds-requires
count_rounds-requires g c =
    let few = c.requires.few in
    record { few = omega arith }

-- the rounds are steps of the rank, as the shard shows
ran : (g : Over) (c : After-count_rounds g) →
    running g.C.ShardCore.says c.count_rounds.new.machine ≡
    run_of (running g.C.ShardCore.says c.args.machine.now) (replicate (c.args.count / 2 + c.args.count / 2) c.args.rank)
ran g c =
    let round = subst (Rested g.C.Resting.with_sight (running g.C.ShardCore.says c.args.machine.now) c.args.rank) c.in-Round.is c.requires.in_round in
    let within : c.args.count / 2 + c.args.count / 2 ≤ c.args.count = omega arith in
    c.count_rounds.ensures.run c.args.rank c.in-Round.shard c.args.count within (c.shows_round.ensures c.if-not-shows_round.false c.args.rank round)

pub make_leg-requires-clause-there : goal.make_leg-requires-clause-there
make_leg-requires-clause-there g c =
    let old = running g.C.ShardCore.says c.args.machine.now in
    subst (λ l. c.args.rank < length l)
    (sym (ap (λ m. m.calls) (ran g (goal.at.make_leg-requires-clause-there g c).After-count_rounds)
    ∙ (turn_counts old (c.args.count / 2 + c.args.count / 2) c.args.rank).1)) c.requires.there

pub make_leg-requires-clause-few : goal.make_leg-requires-clause-few
make_leg-requires-clause-few g c =
    let old = running g.C.ShardCore.says c.args.machine.now in
    let n = c.args.count / 2 in
    let made : steps_made c.count_rounds.new.machine.steps ≡ steps_made old.steps + (n + n) =
    ap (λ m. steps_made m.steps) (ran g (goal.at.make_leg-requires-clause-few g c).After-count_rounds)
    ∙ (turn_counts old (n + n) c.args.rank).0 in
    let odd = c.if-count-eq0.false in
    let few = c.requires.few in
    omega arith

pub make_leg-requires-clause-shows : goal.make_leg-requires-clause-shows
make_leg-requires-clause-shows g c =
    let see = g.C.Resting.with_sight in
    let m = running g.C.ShardCore.says c.args.machine.now in
    let round = subst (Rested see m c.args.rank) c.in-Round.is c.requires.in_round in
    let shown = c.shows_round.ensures c.if-not-shows_round.false c.args.rank round in
    subst (λ u. GoesRound see u c.args.rank c.in-Round.shard c.in-Round.round 1) (sym c.count_rounds.ensures.counted)
    (goes_with see c.args.rank c.in-Round.shard c.in-Round.round m c.count_rounds.new.machine.steps c.args.count shown)

pub returns-then-count-eq0-clause-run : goal.returns-then-count-eq0-clause-run
returns-then-count-eq0-clause-run g c =
    let n = c.args.count / 2 in
    let even = c.if-count-eq0.true in
    let whole : n + n ≡ c.args.count = omega arith in
    λ _. ran g (goal.at.returns-then-count-eq0-clause-run g c).After-count_rounds ∙
    ap (λ i. run_of (running g.C.ShardCore.says c.args.machine.now) (replicate i c.args.rank)) whole

pub returns-then-count-eq0-clause-in_round : goal.returns-then-count-eq0-clause-in_round
returns-then-count-eq0-clause-in_round g c =
    let see = g.C.Resting.with_sight in
    let m = running g.C.ShardCore.says c.args.machine.now in
    let round = subst (Rested see m c.args.rank) c.in-Round.is c.requires.in_round in
    let now = running g.C.ShardCore.says c.count_rounds.new.machine in
    subst (Rested see now c.args.rank) (sym c.in-Round.is) (subst (λ u. IsInRound see u c.args.rank c.in-Round.shard c.in-Round.round)
    (sym c.count_rounds.ensures.counted) (round_with see c.args.rank c.in-Round.shard c.in-Round.round m c.count_rounds.new.machine.steps round))

pub returns-clause-run : goal.returns-clause-run
returns-clause-run g c =
    let old = running g.C.ShardCore.says c.args.machine.now in
    let rank = c.args.rank in
    let n = c.args.count / 2 in
    let odd = c.if-count-eq0.false in
    let whole : n + n + 1 ≡ c.args.count = omega arith in
    λ _. c.make_leg.ensures.made ∙ ap (λ m. stepped m rank) (ran g (goal.at.returns-clause-run g c).After-count_rounds)
    ∙ sym (run_end old (n + n) rank) ∙ ap (λ i. run_of old (replicate i rank)) whole
