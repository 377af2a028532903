-- The six words of the place say its entry.
use Rattle.std.proofs.Common.{◌≡◌, ◌+◌, ◌*◌, ◌/◌, ◌<◌, ◌≤◌, ◌^◌, length, slice_index, Some, ap, sym, ◌∙◌, subst, arith}
use Rattle.rl_site.specs.Site.{journal_base}
use Rattle.rl_journal.specs.Journal.{entry_of, six_from}
use Rattle.rl_shard.proofs.ClosingLaws.{left_low, left_entry, left_part}
use Rattle.rl_shard.proofs.closing.update_at.Goals as goal
use Rattle.rl_shard.proofs.closing.update_at.Goals.{After-journal_base}
use Rattle.rl_shard.proofs.closing.update_at.Given.{Over}

base : (g : Over) (c : After-journal_base g) → c.journal_base.result ≡ journal_base (g.C.ShardCore.says c.args.core.now).table.site.geom
base g c = c.journal_base.ensures ∙ ap journal_base c.geom.ensures

low : (g : Over) (c : After-journal_base g) → c.journal_base.result + 6 * c.args.at + 6 ≤ length c.args.words.now
low g c =
    let core = c.args.core.now in
    let l = left_low (g.C.ShardCore.says core) (g.met.C.ShardCore.shard_laws core) c.args.words.now c.requires.left c.args.at c.requires.there in
    let b = base g c in
    omega arith

pub bounds-words-first : goal.bounds-words-first
bounds-words-first g c = let l = low g (goal.at.bounds-words-first g c).After-journal_base in omega arith

pub bounds-words-first-2 : goal.bounds-words-first-2
bounds-words-first-2 g c = let l = low g (goal.at.bounds-words-first-2 g c).After-journal_base in omega arith

pub bounds-words-first-3 : goal.bounds-words-first-3
bounds-words-first-3 g c = let l = low g (goal.at.bounds-words-first-3 g c).After-journal_base in omega arith

pub bounds-words-first-4 : goal.bounds-words-first-4
bounds-words-first-4 g c = let l = low g (goal.at.bounds-words-first-4 g c).After-journal_base in omega arith

pub bounds-words-first-5 : goal.bounds-words-first-5
bounds-words-first-5 g c = let l = low g (goal.at.bounds-words-first-5 g c).After-journal_base in omega arith

pub bounds-words-first-6 : goal.bounds-words-first-6
bounds-words-first-6 g c = let l = low g (goal.at.bounds-words-first-6 g c).After-journal_base in omega arith

pub journal_entry-requires : goal.journal_entry-requires
journal_entry-requires g c =
    let core = c.args.core.now in
    let words = c.args.words.now in
    record {
      part = subst (λ b. slice_index words (b + 6 * c.args.at + 1) / 2048 < 2 ^ 32) (sym (base g (goal.at.journal_entry-requires g c).After-journal_base))
          (left_part (g.C.ShardCore.says core) (g.met.C.ShardCore.shard_laws core) words c.requires.left c.args.at c.requires.there);
    }

pub returns : goal.returns
returns g c =
    let core = c.args.core.now in
    let words = c.args.words.now in
    let T = (g.C.ShardCore.says core).table in
    left_entry (g.C.ShardCore.says core) (g.met.C.ShardCore.shard_laws core) words c.requires.left c.args.at c.requires.there
    ∙ ap Some (sym (c.journal_entry.ensures.is ∙ ap (λ b. entry_of c.shard.result c.args.at (six_from words (b + 6 * c.args.at))) (base g (goal.at.returns g c).After-journal_base)
    ∙ ap (λ s. entry_of s c.args.at (six_from words (journal_base T.site.geom + 6 * c.args.at))) c.shard.ensures))
