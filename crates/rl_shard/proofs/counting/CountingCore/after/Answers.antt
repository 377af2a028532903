-- What the atom leaves, by the shard's table, with what happened counted.
use Rattle.std.proofs.Common.{◌∙◌, ap, sym}
use Rattle.rl_step.specs.Core.{Turned, turned_with}
use Rattle.rl_shard.specs.laws.CountingLaws.{whole_may_get}
use Rattle.rl_shard.specs.Tallies.{all_noted}
use Rattle.rl_shard.proofs.counting.CountingCore.after.Goals as goal

pub after-stepped-requires-clause-may : goal.after-stepped-requires-clause-may
after-stepped-requires-clause-may g c =
    whole_may_get g.C.ShardCore.says g.met.C.ShardCore.shard_laws g.C.Core.rule g.met.C.ShardCore.ruled g.C.Core.table g.met.C.ShardCore.same_table c.args.self.now c.args.view.now c.args.got c.requires.may

pub returns : goal.returns
returns g c =
    let core = c.args.self.now.whole in
    let x = c.args.view.now in
    let es = c.after-stepped.new.events.items in
    let tallies = c.count.ensures ∙ ap (λ z. all_noted z x.tallies) c.as_slice.ensures.value in
    let turned = c.after-stepped.ensures ∙ ap (λ k. k.after x.whole c.args.got) (sym (g.met.C.ShardCore.same_table core)) in
    ap (λ n. turned_with (record { whole = c.after-stepped.new.view; tallies = n }) es c.after-stepped.result) tallies
    ∙ ap (λ (u : Turned _). turned_with (record { whole = u.view; tallies = all_noted u.events x.tallies }) u.events u.stepped) turned
