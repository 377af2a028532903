-- What the words of a window say on which no block is open: the journal, place by place, and the table after it.
use Rattle.std.specs.Prelude.{◌≡◌, ◌<◌, ◌≤◌, ℕ, ◌+◌, ◌*◌, ◌/◌, ◌^◌, List, length, take, drop, sum, slice_get, slice_index, Some}
use Rattle.std.specs.FinMap as finite
use Rattle.std.proofs.Common.{sym, ap, ◌∙◌, subst, arith}
use Rattle.rl_journal.specs.Journal.{entry_of, six_from}
use Rattle.rl_journal.specs.Legal.{table_after, IsLegalJournal}
use Rattle.rl_volume.specs.Words.{volume_words}
use Rattle.rl_volume.specs.Volume.{IsVolume}
use Rattle.rl_site.specs.Site.{places, journal_base, lock_base}
use Rattle.rl_core.specs.ShardTables.{ShardTable, journal_at}
use Rattle.rl_core.specs.Moments.{CoreSays}
use Rattle.rl_core.specs.ShardLaws.{ShardCoreLaws}
use Rattle.rl_core.specs.laws.JournalLaws.{count_is, few_updates, place_low, update_is, part_fits}
use Rattle.rl_shard.specs.Closing.{IsLeft}

module _ {V : Type 0} (S : CoreSays V) (laws : ShardCoreLaws S) (words : List ℕ) (is : IsLeft S words) where
  abbrev T : ShardTable V
  T = S.table

  left_short : length (journal_at T words) ≤ places T.site
  left_short = subst (λ ws. length (journal_at T ws) ≤ places T.site) is.words_are (laws.short is.moment is.is_good)

  -- the count is the journal's length, for which there was room
  pub left_count : slice_index words 1 ≡ length (journal_at T words)
  left_count = count_is T.site words left_short

  pub left_few : length (journal_at T words) ≤ sum T.site.rooms
  left_few = let short = left_short in omega arith

  left_all : length words ≡ lock_base T.site + T.behind
  left_all = ap length (sym is.words_are) ∙ laws.words is.moment is.is_good

  pub left_small : slice_index words 1 < 2 ^ 32
  left_small =
      let c = left_count in
      let u = few_updates T.site words left_short in
      let f = laws.fits is.moment is.is_good in
      omega arith

  -- the words of a place are there, and say its entry
  pub left_low : (at : ℕ) → at < length (journal_at T words) → journal_base T.site.geom + 6 * at + 6 ≤ length words
  left_low at there =
      let l = place_low T.site words left_short at there in
      let a = left_all in
      omega arith

  pub left_entry : (at : ℕ) → at < length (journal_at T words) → slice_get (journal_at T words) at ≡ Some (entry_of T.site.shard at (six_from words (journal_base T.site.geom + 6 * at)))
  left_entry at there = update_is T.site words left_short at there

  left_legal : IsLegalJournal T.site.geom (journal_at T words)
  left_legal = subst (λ ws. IsLegalJournal T.site.geom (journal_at T ws)) is.words_are (laws.legal is.moment is.is_good).journal_is

  pub left_part : (at : ℕ) → at < length (journal_at T words) → slice_index words (journal_base T.site.geom + 6 * at + 1) / 2048 < 2 ^ 32
  left_part at there = part_fits T.site words left_short T.site.geom left_legal at there

  -- the volume is that of the table after the journal
  pub left_volume : IsVolume T.site.geom T.site.shard (take (volume_words T.site.geom) (drop 2 words)) (table_after T.site.geom finite.empty (journal_at T words))
  left_volume =
      subst (λ ws. IsVolume T.site.geom T.site.shard (take (volume_words T.site.geom) (drop 2 ws)) (table_after T.site.geom finite.empty (journal_at T ws))) is.words_are
      (laws.volume_left is.moment is.is_good is.closed)
