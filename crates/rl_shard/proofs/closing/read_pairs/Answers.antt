-- The words behind the count are the volume of the table after the journal.
use Rattle.std.proofs.Common.{◌≡◌, ◌+◌, ◌-◌, take, drop, sym, ap, ◌∙◌, subst, arith}
use Rattle.std.specs.FinMap as finite
use Rattle.rl_journal.specs.Legal.{table_after}
use Rattle.rl_volume.specs.Words.{volume_words}
use Rattle.rl_volume.specs.Volume.{IsVolume}
use Rattle.rl_core.specs.ShardTables.{journal_at}
use Rattle.rl_shard.proofs.ClosingLaws.{left_volume}
use Rattle.rl_shard.proofs.closing.read_pairs.Goals as goal
use Rattle.rl_shard.proofs.closing.read_pairs.Goals.{After-volume_words}
use Rattle.rl_shard.proofs.closing.read_pairs.Given.{Over}

many : (g : Over) (c : After-volume_words g) → volume_words (g.C.ShardCore.says c.args.core.now).table.site.geom ≡ c.volume_words.result
many g c = sym (c.volume_words.ensures ∙ ap volume_words c.geom-geom.ensures)

volume : (g : Over) (c : After-volume_words g) →
    IsVolume c.geom-geom.result (g.C.ShardCore.says c.args.core.now).table.site.shard (take (2 + c.volume_words.result - 2) (drop 2 c.args.words.now))
    (table_after c.geom-geom.result finite.empty (journal_at (g.C.ShardCore.says c.args.core.now).table c.args.words.now))
volume g c =
    let core = c.args.core.now in
    let T = (g.C.ShardCore.says core).table in
    let words = c.args.words.now in
    let e = many g c in
    let long : volume_words T.site.geom ≡ 2 + c.volume_words.result - 2 = omega arith in
    subst (λ z. IsVolume z T.site.shard (take (2 + c.volume_words.result - 2) (drop 2 words)) (table_after z finite.empty (journal_at T words))) (sym c.geom-geom.ensures)
    (subst (λ n. IsVolume T.site.geom T.site.shard (take n (drop 2 words)) (table_after T.site.geom finite.empty (journal_at T words))) long
    (left_volume (g.C.ShardCore.says core) (g.met.C.ShardCore.shard_laws core) words c.requires.left))

pub content_into-requires-clause-well_formed : goal.content_into-requires-clause-well_formed
content_into-requires-clause-well_formed g c = record { shard = _; table = _; volume = volume g (goal.at.content_into-requires-clause-well_formed g c).After-volume_words }

pub returns : goal.returns
returns g c = c.content_into.ensures.content _ _ (volume g (goal.at.returns g c).After-volume_words)
    ∙ ap (λ z. finite.entries (table_after z finite.empty (journal_at (g.C.ShardCore.says c.args.core.now).table c.args.words.now))) c.geom-geom.ensures
