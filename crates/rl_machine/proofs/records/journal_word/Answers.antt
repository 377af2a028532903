-- The words of a place of the journal stand before those behind it.
use Rattle.std.proofs.Common.{◌≡◌, ◌+◌, ◌*◌, ◌≤◌, length, slice_index, ap, sym, subst, ◌∙◌, arith}
use Rattle.rl_model.specs.Geom.{GeomFits}
use Rattle.rl_step.specs.Do.{TheWindow}
use Rattle.rl_site.specs.Site.{journal_base, lock_base}
use Rattle.rl_core.specs.laws.JournalLaws.{place_low}
use Rattle.rl_machine.specs.laws.JournalAt.{short, all_words, fits, geom_fits}
use Rattle.rl_machine.proofs.records.journal_word.Goals as goal
use Rattle.rl_machine.proofs.records.journal_word.Goals.{After-journal_base}
use Rattle.rl_machine.proofs.records.journal_word.Given.{Over}

low : (g : Over) (c : After-journal_base g) →
    journal_base (g.C.ShardCore.says c.args.shard.now.core).table.site.geom + 6 * c.args.at + 6 ≤ lock_base (g.C.ShardCore.says c.args.shard.now.core).table.site
low g c =
    let s = c.args.shard.now in
    place_low (g.C.ShardCore.says s.core).table.site s.flat.words.words (short g.C.ShardCore.says g.met.C.ShardCore.shard_laws s c.requires.good) c.args.at c.requires.there

base : (g : Over) (c : After-journal_base g) → c.journal_base.result ≡ journal_base (g.C.ShardCore.says c.args.shard.now.core).table.site.geom
base g c = c.journal_base.ensures ∙ ap journal_base c.geom.ensures

pub journal_base-requires : goal.journal_base-requires
journal_base-requires g c = subst GeomFits (sym c.geom.ensures) (geom_fits g.C.ShardCore.says g.met.C.ShardCore.shard_laws c.args.shard.now c.requires.good)

pub overflow_mul-first : goal.overflow_mul-first
overflow_mul-first g c =
    let l = low g (goal.at.overflow_mul-first g c).After-journal_base in
    let f = fits g.C.ShardCore.says g.met.C.ShardCore.shard_laws c.args.shard.now c.requires.good in
    omega arith

pub overflow_add-first : goal.overflow_add-first
overflow_add-first g c =
    let l = low g (goal.at.overflow_add-first g c).After-journal_base in
    let f = fits g.C.ShardCore.says g.met.C.ShardCore.shard_laws c.args.shard.now c.requires.good in
    let b = base g (goal.at.overflow_add-first g c).After-journal_base in
    omega arith

pub overflow_add-first-2 : goal.overflow_add-first-2
overflow_add-first-2 g c =
    let l = low g (goal.at.overflow_add-first-2 g c).After-journal_base in
    let f = fits g.C.ShardCore.says g.met.C.ShardCore.shard_laws c.args.shard.now c.requires.good in
    let b = base g (goal.at.overflow_add-first-2 g c).After-journal_base in
    let w = c.requires.word in
    omega arith

pub value-requires : goal.value-requires
value-requires g c =
    let l = low g (goal.at.value-requires g c).After-journal_base in
    let all = ap (λ (h : TheWindow). length h.words) c.words.ensures in
    let long = all_words g.C.ShardCore.says g.met.C.ShardCore.shard_laws c.args.shard.now c.requires.good in
    let b = base g (goal.at.value-requires g c).After-journal_base in
    let w = c.requires.word in
    omega arith

pub returns : goal.returns
returns g c =
    c.value.ensures ∙ ap (λ (h : TheWindow). slice_index h.words (c.journal_base.result + 6 * c.args.at + c.args.word)) c.words.ensures
    ∙ ap (λ b. slice_index c.args.shard.now.flat.words.words (b + 6 * c.args.at + c.args.word)) (base g (goal.at.returns g c).After-journal_base)
