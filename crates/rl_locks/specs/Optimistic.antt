-- What is promised of optimistic readers on a shard, over whatever lock the writers hold: of its words and of the views of its ranks.
use Rattle.std.specs.Prelude.{◌≡◌, ◌≢◌, ◌↔◌, ◌⊎◌, ℕ, ◌+◌, ◌*◌, ◌%◌, ◌<◌, ◌≤◌, true, false, List, [], ◌∷◌, ◌++◌, length, take, slice_get, slice_index, Some, None}
use Rattle.rl_word.specs.declared.acts.Atom.{Atom}
use Rattle.rl_word.specs.declared.acts.Atom.TheVariants.{Load}
use Rattle.rl_model.specs.declared.call.Call.TheVariants.{Get}
use Rattle.rl_step.specs.declared.events.Standing.TheVariants.{Out, Asking, Writer}
use Rattle.rl_step.specs.declared.events.Stepped.TheVariants.{Waiting, Lost}
use Rattle.rl_step.specs.Core.{Turned}
use Rattle.rl_step.specs.Do.{TheWindow, do_atom, do_got}
use Rattle.rl_volume.specs.Seen.{AgreesWith}
use Rattle.rl_site.specs.Site.{count_word, lock_base, volume_of}
use Rattle.rl_core.specs.ShardTables.{ShardTable}
use Rattle.rl_seq.specs.declared.stage.SeqStage.TheVariants as stage
use Rattle.rl_seq.specs.SeqWork.{TheSeqWork}
use Rattle.rl_seq.specs.SeqGood.{is_between}
use Rattle.rl_seq.specs.Rule.{is_getting, found_version, found_count}
use Rattle.rl_rank.specs.declared.whole.WholeView.{WholeView}

module _ {V : Type 0} (T : ShardTable (WholeView V TheSeqWork)) (h : TheWindow) (vs : List (WholeView V TheSeqWork)) where
  -- the version is the one word of the work's own
  abbrev pub version_now : ℕ
  version_now = slice_index h.words T.own_at

  -- the words of the volume that a rank has loaded in this try, with what it found there
  abbrev pub loaded_in_try : WholeView V TheSeqWork → List (ℕ × ℕ)
  loaded_in_try x = x.work.work.seen.pairs

  -- this rank is at work on a get alone
  pub record Gets (r : ℕ) (x : WholeView V TheSeqWork) : Type 0 where
    pub there : slice_get vs r ≡ Some x
    pub getting : is_getting x.work.stage ≡ true

  -- and its next atom is this one
  pub record GetsBy (r : ℕ) (x : WholeView V TheSeqWork) (at : Atom) : Type 0 where
    pub gets : Gets r x
    pub next : T.core.next x ≡ Some at

  -- what that atom leaves
  abbrev pub got_by : WholeView V TheSeqWork → Atom → Turned (WholeView V TheSeqWork)
  got_by x at = T.core.after x (do_got at h.words h.cards)

  -- a get alone is at the lock nowhere
  pub record KeepsOutside : Type 0 where
    -- a rank is at work on one exactly where it owes the entries of its block, and the block is a get: so from its opening until its entry joins
    pub every : (r : ℕ) (x : WholeView V TheSeqWork) → slice_get vs r ≡ Some x →
        (is_getting x.work.stage ≡ true) ↔ ((key : ℕ) × ((T.own x).owes ≡ true) × ((T.own x).calls ≡ Get key ∷ []))
    -- it stands as asking from its opening to its end, so it is no holder; and it is in no card
    pub asks : (r : ℕ) (x : WholeView V TheSeqWork) → Gets r x → T.standing x ≡ Asking
    pub away : (r : ℕ) (x : WholeView V TheSeqWork) → Gets r x → T.card x ≡ None
    -- its next atom is always a load, of the version or of a word before the lock's
    pub loads : (r : ℕ) (x : WholeView V TheSeqWork) → Gets r x → (w : ℕ) × (T.core.next x ≡ Some (Load w)) × ((w ≡ T.own_at) ⊎ (w < lock_base T.site))
    -- and no event comes with it: none of a queue, none of a holder and no touch
    pub quiet : (r : ℕ) (x : WholeView V TheSeqWork) (at : Atom) → GetsBy r x at → (got_by x at).events ≡ []
    -- once it is done its rank stands out
    pub ends : (r : ℕ) (x : WholeView V TheSeqWork) (at : Atom) → GetsBy r x at → is_getting (got_by x at).view.work.stage ≡ false →
        T.standing (got_by x at).view ≡ Out

  -- how its atoms are answered
  pub record AnswersGets : Type 0 where
    -- it waits exactly where it looks at the version and that is odd
    pub waits : (r : ℕ) (x : WholeView V TheSeqWork) (at : Atom) (word value : ℕ) → GetsBy r x at →
        ((got_by x at).stepped ≡ Waiting word value) ↔ ((x.work.stage ≡ stage.Look) × (version_now % 2 ≢ 0) × (word ≡ T.own_at) × (value ≡ version_now))
    -- it has lost exactly where it looks at the version again and that isn't the one found
    pub loses : (r : ℕ) (x : WholeView V TheSeqWork) (at : Atom) (guess seen : ℕ) → GetsBy r x at →
        ((got_by x at).stepped ≡ Lost guess seen) ↔ ((count : ℕ) × (x.work.stage ≡ stage.Again guess count) × (seen ≡ version_now) × (version_now ≢ guess))

  -- what a get knows, and how much it loads in each of its tries: a try begins with the look at the version
  pub record KeepsTries : Type 0 where
    -- until it has found the count it has loaded nothing
    pub fresh : (r : ℕ) (x : WholeView V TheSeqWork) → Gets r x → found_count x.work.stage ≡ None → loaded_in_try x ≡ []
    pub one_more : (r : ℕ) (x : WholeView V TheSeqWork) (at : Atom) (found count word : ℕ) → GetsBy r x at →
        x.work.stage ≡ stage.Read found count word → loaded_in_try (got_by x at).view ≡ loaded_in_try x ++ (word, do_got at h.words h.cards)
        ∷ []
    pub few : (r : ℕ) (x : WholeView V TheSeqWork) → Gets r x → length (loaded_in_try x) ≤ 3 + 2 * T.site.geom.overflow
    -- the version is no lower than the one that the try has found
    pub found : (r : ℕ) (x : WholeView V TheSeqWork) (version : ℕ) → Gets r x → found_version x.work.stage ≡ Some version →
        (version % 2 ≡ 0) × (version ≤ version_now)
    -- while it is still that one, the count and all words loaded are as they were found
    pub same_words : (r : ℕ) (x : WholeView V TheSeqWork) → Gets r x → found_version x.work.stage ≡ Some version_now →
        AgreesWith (loaded_in_try x) (volume_of T.site.geom (take (lock_base T.site) h.words))
    pub same_count : (r : ℕ) (x : WholeView V TheSeqWork) (count : ℕ) → Gets r x → found_version x.work.stage ≡ Some version_now →
        found_count x.work.stage ≡ Some count → slice_index (take (lock_base T.site) h.words) count_word ≡ count

  -- the version is odd exactly while a writer is between its two stores to it, and no atom of any rank lowers it
  pub record KeepsVersion : Type 0 where
    pub even : (version_now % 2 ≡ 0) ↔ ((r : ℕ) (x : WholeView V TheSeqWork) → slice_get vs r ≡ Some x → is_between x.work.stage ≡ false)
    pub writes : (r : ℕ) (x : WholeView V TheSeqWork) → slice_get vs r ≡ Some x → is_between x.work.stage ≡ true → T.standing x ≡ Writer
    pub rises : (r : ℕ) (x : WholeView V TheSeqWork) (at : Atom) → slice_get vs r ≡ Some x → T.core.next x ≡ Some at →
        version_now ≤ slice_index (do_atom r at h).words T.own_at

  pub record KeepsGets : Type 0 where
    pub outside : KeepsOutside
    pub answers : AnswersGets
    pub tries : KeepsTries
    pub versions : KeepsVersion
