-- What is promised of ranks that read the table under their lock, where each block is done under it: of a shard's words and of the views
-- of its ranks. So it holds of readers that hold RMA-RW beside each other.
use Rattle.std.specs.Prelude.{◌≡◌, ◌<◌, ℕ, ◌+◌, List, [], ◌∷◌, ◌++◌, length, take, slice_get, slice_index, Some}
use Rattle.rl_word.specs.declared.acts.Atom.TheVariants.{Load}
use Rattle.rl_model.specs.declared.call.Call.{Call}
use Rattle.rl_step.specs.Do.{TheWindow}
use Rattle.rl_step.specs.Lock.{IsHolder}
use Rattle.rl_volume.specs.Decision.{words_written}
use Rattle.rl_volume.specs.Seen.{AgreesWith}
use Rattle.rl_volume.specs.Walk.{most_reads}
use Rattle.rl_volume.specs.Words.{volume_words}
use Rattle.rl_work.specs.declared.stage.Stage.TheVariants.{Begin, Read}
use Rattle.rl_site.specs.Site.{count_word, volume_base, lock_base, volume_of}
use Rattle.rl_work.specs.Work.{TheWork}
use Rattle.rl_core.specs.ShardTables.{ShardTable}
use Rattle.rl_rank.specs.declared.whole.WholeView.{WholeView}

module _ {V : Type 0} (T : ShardTable (WholeView V TheWork)) (h : TheWindow) (vs : List (WholeView V TheWork)) where
  -- the words before the lock's
  abbrev pub front_now : List ℕ
  front_now = take (lock_base T.site) h.words

  -- the words of the volume that a rank has loaded for its block, with what it found there
  abbrev pub loaded : WholeView V TheWork → List (ℕ × ℕ)
  loaded x = x.work.seen.pairs

  -- rank r has this view, has found this count, and reads this word of the volume next
  pub record Reads (r count word : ℕ) (x : WholeView V TheWork) : Type 0 where
    pub there : slice_get vs r ≡ Some x
    pub reads : x.work.stage ≡ Read count word

  -- and it does so for a block of this call alone
  pub record ReadsAlone (r count word : ℕ) (x : WholeView V TheWork) (call : Call) : Type 0 where
    pub is : Reads r count word x
    pub alone : x.work.calls ≡ call ∷ []

  pub record KeepsReads : Type 0 where
    -- it holds the lock, as a writer or as a reader
    pub holds : (r count word : ℕ) (x : WholeView V TheWork) → Reads r count word x → IsHolder (T.standing x)
    -- what it has found still stands: the count, and each word that it has loaded, with the writes that it keeps to make later applied
    pub same_count : (r count word : ℕ) (x : WholeView V TheWork) → Reads r count word x → slice_index front_now count_word ≡ count
    pub same_words : (r count word : ℕ) (x : WholeView V TheWork) → Reads r count word x →
        AgreesWith (loaded x) (words_written (volume_of T.site.geom front_now) x.work.writes)
    -- a call alone that has just found the count has loaded nothing, and keeps no write;
    pub fresh : (r count word got : ℕ) (x : WholeView V TheWork) (call : Call) → slice_get vs r ≡ Some x → IsHolder (T.standing x) →
        x.work.stage ≡ Begin → x.work.calls ≡ call ∷ [] → T.core.next x ≡ Some (Load count_word) →
        (T.core.after x got).view.work.stage ≡ Read count word → (loaded (T.core.after x got).view ≡ []) × ((T.core.after x got).view.work.writes ≡ [])
    -- with each load it has loaded one word more, and keeps no more writes, as long as it reads on;
    pub one_more : (r count word got next : ℕ) (x : WholeView V TheWork) (call : Call) → ReadsAlone r count word x call →
        T.core.next x ≡ Some (Load (volume_base + word)) → (T.core.after x got).view.work.stage ≡ Read count next →
        (loaded (T.core.after x got).view ≡ loaded x ++ (word, got) ∷ []) × ((T.core.after x got).view.work.writes ≡ x.work.writes)
    -- and before each it has loaded fewer than the call can want: of a get fewer than 3 + 2 * overflow. So it loads no more for it
    pub few : (r count word : ℕ) (x : WholeView V TheWork) (call : Call) → ReadsAlone r count word x call → length (loaded x) < most_reads T.site.geom call
    -- and these are all its loads of the volume: whoever loads a word of it next reads so
    pub loads : (r word : ℕ) (x : WholeView V TheWork) → slice_get vs r ≡ Some x → T.core.next x ≡ Some (Load (volume_base + word)) →
        word < volume_words T.site.geom → (count : ℕ) × Reads r count word x
