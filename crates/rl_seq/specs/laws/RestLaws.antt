-- The rule of the work inside a lock, where a rank that has no block open there goes on: its transcript stays as it was, or a get
-- alone that was read elsewhere joins it.
use Rattle.std.specs.Prelude.{◌≡◌, ℕ, ◌<◌, false, List, [], ◌∷◌, ◌++◌, All, length, slice_get, slice_set, Some}
use Rattle.std.specs.FinMap as finite
use Rattle.std.proofs.Common.{sym, subst}
use Rattle.rl_model.specs.declared.entry.Entry.{Entry}
use Rattle.rl_model.specs.Table.{apply}
use Rattle.rl_journal.specs.Legal.{table_after, updates}
use Rattle.rl_journal.specs.Ranks.{IsOwn}
use Rattle.rl_work.specs.declared.stage.Stage.TheVariants.{Rest}
use Rattle.rl_work.specs.laws.SideLaws.{side_stays, entry_joins}
use Rattle.rl_site.specs.Site.{Site}
use Rattle.rl_work.specs.WorkGood.{WorkSide, WorkGood, Fits, FitsAt, IsDone, is_writing}

module _ (site : Site) (words : List ℕ) (sides : List WorkSide) (g : WorkGood site words sides) (r : ℕ) (x : WorkSide) (has : slice_get sides r ≡ Some x) where
  -- a side without an open block fits the rule where it is done
  fits_done : (y : WorkSide) → y.work.stage ≡ Rest → IsDone y.standing → Fits site words g.journal g.before r y
  fits_done y rests done = subst (FitsAt site words g.journal g.before r y) (sym rests) done

  -- the entries stay
  pub rest_stays : (y : WorkSide) → y.work.stage ≡ Rest → IsDone y.standing → is_writing x.work.stage ≡ false →
      y.work.seen.room ≡ x.work.seen.room → y.work.transcript ≡ x.work.transcript →
      WorkGood site words (slice_set sides r y)
  rest_stays y rests done calm room kept = side_stays site words sides g r x has y (λ _. calm) kept room (fits_done y rests done)

  -- an entry joins them that looked at the journal as it is, and was answered by its table
  pub read_joins : (y : WorkSide) (e : Entry) → y.work.stage ≡ Rest → IsDone y.standing → is_writing x.work.stage ≡ false →
      y.work.seen.room ≡ x.work.seen.room → y.work.transcript.items ≡ x.work.transcript.items ++ e ∷ [] →
      IsOwn site.shard r e → updates e ≡ false → All (λ d. d.seq < e.seq) x.work.transcript.items → e.at ≡ length g.journal → e.reply ≡
      (apply site.geom e.call (table_after site.geom finite.empty g.journal)).1 →
      WorkGood site words (slice_set sides r y)
  read_joins y e rests done calm room items own is fresh at reply =
      entry_joins site words sides g r x has y e calm room items own is fresh at reply (fits_done y rests done)
