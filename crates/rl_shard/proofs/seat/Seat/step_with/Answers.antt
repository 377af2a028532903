-- What the atom does, why it is answered so, and how the desk turns.
use Rattle.std.proofs.Common.{ap, subst, sym}
use Rattle.rl_shard.specs.Shards.{core_at, says_at, table_at, counted_at, desk_at, rank_at, next_at}
use Rattle.rl_shard.specs.laws.SeatLaws.{stays, performs_turns, performs_cause, alone, no_cause, by_cases, seat_rests, seat_shut}
use Rattle.rl_shard.specs.Steps.{CauseAt, TurnsAt}
use Rattle.rl_shard.proofs.seat.Seat.step_with.Goals as goal
use Rattle.rl_shard.proofs.seat.Seat.step_with.Goals.{After-step-stepped}
use Rattle.rl_shard.proofs.seat.Seat.step_with.Given.{Over}

why : (g : Over) (c : After-step-stepped g) → CauseAt g.C.ShardCore.says c.args.shard.now c.args.self.now c.step-stepped.result
why g c =
    let says = g.C.ShardCore.says in
    let laws = g.met.C.ShardCore.shard_laws in
    let shard = c.args.shard.now in
    let seat = c.args.self.now in
    by_cases (next_at says shard seat) (CauseAt says shard seat c.step-stepped.result)
    (λ e. subst (CauseAt says shard seat) (sym (c.step-stepped.ensures.finished e).0) (no_cause says laws shard seat c.requires.seat e))
    (λ at e. performs_cause (says_at says shard) (laws (core_at shard)) (rank_at seat) at (counted_at seat) c.step-stepped.new.seat.view c.step-stepped.new.events.items c.step-stepped.result
    (c.step-stepped.ensures.made at e).performs)

turns : (g : Over) (c : After-step-stepped g) → TurnsAt g.C.ShardCore.says c.args.shard.now c.args.self.now (record { seat = c.step-stepped.new.seat })
turns g c =
    let says = g.C.ShardCore.says in
    let shard = c.args.shard.now in
    let seat = c.args.self.now in
    let T = table_at says shard in
    by_cases (next_at says shard seat) (TurnsAt says shard seat (record { seat = c.step-stepped.new.seat }))
    (λ e. stays T.site.shard (rank_at seat) (desk_at says shard seat) (desk_at says shard (record { seat = c.step-stepped.new.seat }))
    (ap (λ z. T.own z.view.whole) (c.step-stepped.ensures.finished e).2))
    (λ at e. performs_turns (says_at says shard) (g.met.C.ShardCore.shard_laws (core_at shard)) (rank_at seat) at (counted_at seat) c.step-stepped.new.seat.view c.step-stepped.new.events.items
    c.step-stepped.result (c.step-stepped.ensures.made at e).performs)

pub returns-clause-step : goal.returns-clause-step
returns-clause-step g c =
    let says = g.C.ShardCore.says in
    let laws = g.met.C.ShardCore.shard_laws in
    let shard = c.args.shard.now in
    let seat = c.args.self.now in
    let d = (goal.at.returns-clause-step g c).After-step-stepped in
    record {
      seat = record { seat = c.step-stepped.ensures.seat; kept = c.step-stepped.ensures.kept };
      rank = c.step-stepped.ensures.rank;
      finished = (
        λ over. by_cases (next_at says shard seat) _ (λ e. seat_shut says laws shard seat c.requires.seat e) (λ at e. absurd ((c.step-stepped.ensures.made at e).goes_on over)),
        λ shut. (c.step-stepped.ensures.finished (seat_rests says laws shard seat c.requires.seat shut)).0,
      );
      nothing = λ shut. ap (λ z. record { seat = z }) (c.step-stepped.ensures.finished (seat_rests says laws shard seat c.requires.seat shut)).2;
      makes = λ at e. let made = c.step-stepped.ensures.made at e in record { one_step = made.one_step; events = c.step-stepped.new.events.items; performs = made.performs };
      cause = why g d;
      alone = λ one. alone (says_at says shard) (laws (core_at shard)) one (rank_at seat) (counted_at seat) c.step-stepped.result (why g d);
      turned = turns g d;
    }
