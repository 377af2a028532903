-- The shard has the table of the core, so its words are laid out by it.
use Rattle.rl_machine.specs.Running.{running, cores_of}
use Rattle.rl_shown.proofs.CoresLaws.{held_by, told_shard}
use Rattle.rl_shown.proofs.words.put_shard.Goals as goal

pub put_words_of-requires-clause-all : goal.put_words_of-requires-clause-all
put_words_of-requires-clause-all g c =
    (held_by g.C.ShardCore.says g.met.C.ShardCore.shard_laws g.C.Core.table g.C.Core.rule g.met.C.ShardCore.ruled g.met.C.Core.laws g.met.C.ShardCore.same_table
    (cores_of c.args.machine.now) (running g.C.ShardCore.says c.args.machine.now) c.rules.ensures.now c.args.shard c.args.core.now c.words.result.now c.args.place.now c.args.naming.now c.behind_journal.result c.of-map.result
    c.requires.core c.words.ensures c.behind_journal.ensures c.of-map.ensures).all

pub put_words_of-requires-clause-few : goal.put_words_of-requires-clause-few
put_words_of-requires-clause-few g c =
    (held_by g.C.ShardCore.says g.met.C.ShardCore.shard_laws g.C.Core.table g.C.Core.rule g.met.C.ShardCore.ruled g.met.C.Core.laws g.met.C.ShardCore.same_table
    (cores_of c.args.machine.now) (running g.C.ShardCore.says c.args.machine.now) c.rules.ensures.now c.args.shard c.args.core.now c.words.result.now c.args.place.now c.args.naming.now c.behind_journal.result c.of-map.result
    c.requires.core c.words.ensures c.behind_journal.ensures c.of-map.ensures).few

pub put_words_of-requires-clause-sized : goal.put_words_of-requires-clause-sized
put_words_of-requires-clause-sized g c =
    (held_by g.C.ShardCore.says g.met.C.ShardCore.shard_laws g.C.Core.table g.C.Core.rule g.met.C.ShardCore.ruled g.met.C.Core.laws g.met.C.ShardCore.same_table
    (cores_of c.args.machine.now) (running g.C.ShardCore.says c.args.machine.now) c.rules.ensures.now c.args.shard c.args.core.now c.words.result.now c.args.place.now c.args.naming.now c.behind_journal.result c.of-map.result
    c.requires.core c.words.ensures c.behind_journal.ensures c.of-map.ensures).sized

pub returns : goal.returns
returns g c =
    let h = held_by g.C.ShardCore.says g.met.C.ShardCore.shard_laws g.C.Core.table g.C.Core.rule g.met.C.ShardCore.ruled g.met.C.Core.laws g.met.C.ShardCore.same_table
    (cores_of c.args.machine.now) (running g.C.ShardCore.says c.args.machine.now) c.rules.ensures.now c.args.shard c.args.core.now c.words.result.now c.args.place.now c.args.naming.now c.behind_journal.result c.of-map.result
    c.requires.core c.words.ensures c.behind_journal.ensures c.of-map.ensures in
    told_shard c.put_words_of.result c.args.out.now.items c.put_words_of.new.out.items _ _ h.lines c.put_words_of.ensures
