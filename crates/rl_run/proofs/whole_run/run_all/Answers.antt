use Rattle.std.proofs.Common.{rules, ◌≡◌, All, length, vec_len, sym, subst}
use Rattle.rl_shard.specs.Shards.{IsShardOf}
use Rattle.rl_run.proofs.MadeLaws.{run_by}
use Rattle.rl_run.proofs.WholeRun as whole
use Rattle.rl_run.proofs.whole_run.run_all.Goals as goal

pub run_callers-requires-clause-rooted : goal.run_callers-requires-clause-rooted
run_callers-requires-clause-rooted g c κs within =
    let n : vec_len c.in_ok-shards.callers ≡ length c.in_ok-shards.callers.items = search rules in
    subst (λ k. All (IsShardOf g.C.ShardCore.says k) c.in_ok-shards.shards.items) (sym n) c.in_ok-shards.ensures.rooted

pub run_callers-requires-clause-callers : goal.run_callers-requires-clause-callers
run_callers-requires-clause-callers g c κs within = c.in_ok-shards.ensures.callers

pub parts_of-requires : goal.parts_of-requires
parts_of-requires g c =
    let begun = c.in_ok-shards.ensures in
    whole.short g.C.ShardCore.defined g.C.ShardCore.says c.args.place.now c.args.ops c.requires.proper c.requires.calls c.in_ok-shards.shards.items c.in_ok-shards.callers.items begun
    g.C.ShardCore.name c.requires.kind (g.met.C.ShardCore g.world.𝓛 g.world.𝓜 g.world.𝓡 ((λ s x. x), (λ x. x), (λ x. x), λ x. x)).has_queues g.C.ShardCore.spares (g.met.C.ShardCore g.world.𝓛 g.world.𝓜 g.world.𝓡 ((λ s x. x), (λ x. x), (λ x. x), λ x. x)).has_tenures c.requires.gets c.in_ok-ends.ends.items c.in_ok-ends.ensures

pub returns : goal.returns
returns g c =
    let begun = c.in_ok-shards.ensures in
    record {
      lawful = whole.run_lawful g.C.ShardCore.defined g.C.ShardCore.says c.args.place.now c.args.ops c.requires.proper c.requires.calls c.in_ok-shards.shards.items c.in_ok-shards.callers.items begun
          g.C.ShardCore.name c.requires.kind (g.met.C.ShardCore g.world.𝓛 g.world.𝓜 g.world.𝓡 ((λ s x. x), (λ x. x), (λ x. x), λ x. x)).has_queues g.C.ShardCore.spares (g.met.C.ShardCore g.world.𝓛 g.world.𝓜 g.world.𝓡 ((λ s x. x), (λ x. x), (λ x. x), λ x. x)).has_tenures c.requires.gets c.in_ok-ends.ends.items c.in_ok-ends.ensures
          c.in_ok-parts.parts.items c.in_ok-done.done.items c.in_ok-parts.ensures.parts c.in_ok-done.ensures c.in_ok-parts.ensures.numbers;
      made = run_by g.C.ShardCore.defined g.C.ShardCore.says c.args.place.now c.args.ops c.requires.proper c.requires.calls c.in_ok-shards.shards.items c.in_ok-shards.callers.items begun
          c.in_ok-ends.ends.items c.in_ok-ends.ensures c.in_ok-parts.parts.items c.in_ok-done.done.items c.in_ok-parts.ensures.parts c.in_ok-done.ensures;
    }
