-- The count is the journal's length; one entry more.
use Rattle.std.proofs.Common.{◌≡◌, ◌<◌, ◌∷◌, [], ◌++◌, length, take, vec_len, ap, sym, ◌∙◌, arith, rules}
use Rattle.std.proofs.lemmas.List.{length-take-le}
use Rattle.std.proofs.Math.Seq.{take-length}
use Rattle.rl_core.specs.ShardTables.{journal_at}
use Rattle.rl_core.specs.laws.Filling.{take_next}
use Rattle.rl_shard.proofs.ClosingLaws.{left_small, left_count, left_few}
use Rattle.rl_shard.proofs.closing.read_journal.Goals as goal

pub overflow_cast-at-end-2 : goal.overflow_cast-at-end-2
overflow_cast-at-end-2 g c = let small = left_small (g.C.ShardCore.says c.args.core.now) (g.met.C.ShardCore.shard_laws c.args.core.now) c.args.words.now c.requires.left in omega arith

pub update_at-requires-clause-there : goal.update_at-requires-clause-there
update_at-requires-clause-there g c =
    let all = left_count (g.C.ShardCore.says c.args.core.now) (g.met.C.ShardCore.shard_laws c.args.core.now) c.args.words.now c.requires.left in
    let low = c.loop-at-test.true in
    omega arith

pub push_reserved-requires : goal.push_reserved-requires
push_reserved-requires g c =
    let journal = journal_at (g.C.ShardCore.says c.args.core.now).table c.args.words.now in
    let all = left_count (g.C.ShardCore.says c.args.core.now) (g.met.C.ShardCore.shard_laws c.args.core.now) c.args.words.now c.requires.left in
    let few = left_few (g.C.ShardCore.says c.args.core.now) (g.met.C.ShardCore.shard_laws c.args.core.now) c.args.words.now c.requires.left in
    let low : c.loop-at.at < length journal = (let t = c.loop-at-test.true in omega arith) in
    let long : vec_len c.loop-at.journal ≡ length c.loop-at.journal.items = search rules in
    let so_far : length c.loop-at.journal.items ≡ c.loop-at.at = ap length c.loop-at.invariant.0 ∙ length-take-le c.loop-at.at journal (omega arith) in
    let room = c.loop-at.invariant.1 in
    omega arith

pub loop-at-preserved : goal.loop-at-preserved
loop-at-preserved g c =
    let journal = journal_at (g.C.ShardCore.says c.args.core.now).table c.args.words.now in (
      c.push_reserved.ensures.items ∙ ap (λ es. es ++ c.update_at.result ∷ []) c.loop-at.invariant.0 ∙ sym (take_next journal c.loop-at.at c.update_at.result c.update_at.ensures),
      (let room = c.loop-at.invariant.1 in let same = c.push_reserved.ensures.capacity in omega arith),
    )

pub returns : goal.returns
returns g c =
    let journal = journal_at (g.C.ShardCore.says c.args.core.now).table c.args.words.now in
    let all = left_count (g.C.ShardCore.says c.args.core.now) (g.met.C.ShardCore.shard_laws c.args.core.now) c.args.words.now c.requires.left in
    let end : c.loop-at.at ≡ length journal = (let t = c.loop-at-test.false in let m = c.loop-at.auto in omega arith) in
    c.loop-at.invariant.0 ∙ ap (λ n. take n journal) end ∙ take-length journal
