-- The first rank with an open call names the shard; where no call is open, the first that has one left goes.
use Rattle.std.proofs.Common.{inl, inr}
use Rattle.std.proofs.lemmas.Option.{IfSome_then}
use Rattle.rl_machine.specs.State.{machine_view, running_shard}
use Rattle.rl_machine.specs.Running.{running, cores_of}
use Rattle.rl_machine.specs.laws.WhoGoes.{some_chosen, none_left}
use Rattle.rl_machine.proofs.machine.guiding.who.Goals as goal

pub returns-in-Some-clause-next : goal.returns-in-Some-clause-next
returns-in-Some-clause-next g c =
    let there = c.shard_of_rank.ensures in
    let s = c.shard_of_rank.result.now in
    IfSome_then c.chosen_on.result c.chosen_on.ensures.chosen
    (λ r chosen. inl (record {
      rank = c.in-Some.rank;
      in_call = c.in-Some.ensures.first;
      chosen = record { core = s.core; has_core = there.core; state = running_shard g.C.ShardCore.says s; has = there.has; chosen = chosen };
    }))

pub returns-in-Some-clause-over : goal.returns-in-Some-clause-over
returns-in-Some-clause-over g c =
    λ e.
    let m = machine_view c.args.state.now in
    let is = c.requires.good in
    let s = c.shard_of_rank.result.now in
    let first = c.in-Some.ensures.first in
    absurd (some_chosen g.C.ShardCore.says g.met.C.ShardCore.shard_laws
    g.C.ShardEnding.left g.C.ShardEnding.most g.met.C.ShardEnding.ends g.C.ShardGuiding.urgent g.met.C.ShardGuiding.guides (cores_of m) is.acts (running g.C.ShardCore.says m) is.is_good
    c.in-Some.rank s.core (running_shard g.C.ShardCore.says s) first.there first.has c.shard_of_rank.ensures.core c.shard_of_rank.ensures.has (c.chosen_on.ensures.none e))

pub returns-in-None-clause-next : goal.returns-in-None-clause-next
returns-in-None-clause-next g c = IfSome_then c.first_to_open.result c.first_to_open.ensures.first (λ r first. inr (record { closed = c.first_open.ensures.none c.in-None.is; first = first }))

pub returns-in-None-clause-over : goal.returns-in-None-clause-over
returns-in-None-clause-over g c =
    λ e.
    let m = machine_view c.args.state.now in
    let is = c.requires.good in
    none_left g.C.ShardCore.says g.met.C.ShardCore.shard_laws
    g.C.ShardEnding.left g.C.ShardEnding.most g.met.C.ShardEnding.ends g.C.ShardGuiding.urgent g.met.C.ShardGuiding.guides (cores_of m) is.acts (running g.C.ShardCore.says m) is.is_good
    (c.first_open.ensures.none c.in-None.is) (c.first_to_open.ensures.none e)
