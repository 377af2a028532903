-- What was noted of the rank says what its steps are, and the others rest where they did.
use Rattle.std.proofs.Common.{◌≡◌, Bool, true, false, slice_set, ap, sym, refl, subst}
use Rattle.rl_step.specs.declared.events.Stepped.TheVariants.{Busy}
use Rattle.rl_machine.specs.Rested.{RestsAt}
use Rattle.rl_machine.specs.Running.{running}
use Rattle.rl_replay.specs.Rested.{Rested, AllRested}
use Rattle.rl_replay.specs.laws.RestedLaws.{all_noted, all_set, noted_at}
use Rattle.rl_replay.proofs.noted.take_noted.Goals as goal
use Rattle.rl_replay.proofs.noted.take_noted.Goals.{In-HeldOff}
use Rattle.rl_replay.proofs.noted.take_noted.Given.{Over}

-- what is noted of the rank, where it is held off
noted_of : (g : Over) (c : In-HeldOff g) → RestsAt (running g.C.ShardCore.says c.args.machine.now) c.args.rank c.in-HeldOff.shard (Busy c.in-HeldOff.node 0)
noted_of g c =
    let m = running g.C.ShardCore.says c.args.machine.now in
    subst (Rested g.C.Resting.with_sight m c.args.rank) c.in-HeldOff.is
    (noted_at g.C.Resting.with_sight m c.args.rests.now.items _ c.args.rank c.index.result.now c.requires.there c.requires.many c.index.ensures c.requires.rested)

pub rest_held_off-requires-clause-rested : goal.rest_held_off-requires-clause-rested
rest_held_off-requires-clause-rested g c = (c.args.rank, noted_of g (goal.at.rest_held_off-requires-clause-rested g c).In-HeldOff)

pub returns-in-HeldOff-clause-run : goal.returns-in-HeldOff-clause-run
returns-in-HeldOff-clause-run g c = λ is. c.rest_held_off.ensures.run is c.args.rank (noted_of g (goal.at.returns-in-HeldOff-clause-run g c).In-HeldOff)

pub go_round-requires : goal.go_round-requires
go_round-requires g c =
    record {
      there = c.requires.there;
      few = c.requires.few;
      in_round = noted_at g.C.Resting.with_sight _ c.args.rests.now.items _ c.args.rank c.index_mut.result.now c.requires.there c.requires.many c.index_mut.ensures.value c.requires.rested;
    }

pub rest-requires : goal.rest-requires
rest-requires g c =
    record {
      few = c.requires.few;
      rested = noted_at g.C.Resting.with_sight _ c.args.rests.now.items _ c.args.rank c.index-3.result.now c.requires.there c.requires.many c.index-3.ensures c.requires.rested;
    }

-- so it is either way
both : {P : Type 0} (b : Bool) → (b ≡ true → P) → (b ≡ false → P) → P
both true is isnt = is refl
both false is isnt = isnt refl

pub returns-in-Round-clause-rested : goal.returns-in-Round-clause-rested
returns-in-Round-clause-rested g c =
    let see = g.C.Resting.with_sight in
    let old = running g.C.ShardCore.says c.args.machine.now in
    let rests = c.args.rests.now.items in
    let rank = c.args.rank in
    let last = c.go_round.new.last in
    let went = c.go_round.ensures in
    both c.go_round.result
    (λ went_on.
    subst (λ u. AllRested see u (slice_set rests rank last)) (sym (went.run went_on))
    (all_noted see old rests rank c.args.count last (subst (λ u. Rested see u rank last) (went.run went_on) went.in_round) c.requires.rested))
    (λ stood.
    let kept = ap (running g.C.ShardCore.says) (went.kept stood) in
    subst (λ u. AllRested see u (slice_set rests rank last)) (sym kept)
    (all_set see old rests rank last (subst (λ u. Rested see u rank last) kept went.in_round) c.requires.rested))
