-- The six words say the entry.
use Rattle.std.proofs.Common.{◌≡◌, ◌+◌, ◌*◌, ◌/◌, ◌<◌, ◌^◌, [], ◌∷◌, slice_index, Some, ap, sym, ◌∙◌, subst, arith}
use Rattle.rl_journal.specs.Journal.{entry_of, six_from}
use Rattle.rl_site.specs.Site.{journal_base}
use Rattle.rl_core.specs.laws.JournalLaws.{update_is, part_fits}
use Rattle.rl_machine.specs.laws.JournalAt.{short, legal}
use Rattle.rl_machine.proofs.records.update_at.Goals as goal

pub journal_entry-requires : goal.journal_entry-requires
journal_entry-requires g c =
    let s = c.args.shard.now in
    let site = (g.C.ShardCore.says s.core).table.site in
    let low = part_fits site s.flat.words.words (short g.C.ShardCore.says g.met.C.ShardCore.shard_laws s c.requires.good) site.geom
    (legal g.C.ShardCore.says g.met.C.ShardCore.shard_laws s c.requires.good) c.args.at c.requires.there in
    record { part = subst (λ n. n / 2048 < 2 ^ 32) (sym c.journal_word-2.ensures) low }

pub returns : goal.returns
returns g c =
    let s = c.args.shard.now in
    let from = journal_base (g.C.ShardCore.says s.core).table.site.geom + 6 * c.args.at in
    let at : from + 0 ≡ from = omega arith in
    let first : c.journal_word.result ≡ slice_index s.flat.words.words from = c.journal_word.ensures ∙ ap (slice_index s.flat.words.words) at in
    let words : c.journal_word.result ∷ c.journal_word-2.result ∷ c.journal_word-3.result ∷ c.journal_word-4.result ∷ c.journal_word-5.result ∷ c.journal_word-6.result ∷ [] ≡ six_from s.flat.words.words from =
    cc (first, c.journal_word-2.ensures, c.journal_word-3.ensures, c.journal_word-4.ensures, c.journal_word-5.ensures, c.journal_word-6.ensures) in
    update_is (g.C.ShardCore.says s.core).table.site s.flat.words.words (short g.C.ShardCore.says g.met.C.ShardCore.shard_laws s c.requires.good) c.args.at c.requires.there
    ∙ ap Some (sym (c.journal_entry.ensures.is ∙ ap (λ n. entry_of n c.args.at (c.journal_word.result ∷ c.journal_word-2.result ∷ c.journal_word-3.result ∷ c.journal_word-4.result ∷ c.journal_word-5.result ∷ c.journal_word-6.result ∷ [])) c.shard.ensures ∙ ap (entry_of (g.C.ShardCore.says s.core).table.site.shard c.args.at) words))
