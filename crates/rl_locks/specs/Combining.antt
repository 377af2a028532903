-- What is promised of flat combining on a shard, over whatever lock lets one writer in at a time: of its words and of the views of its
-- ranks.
use Rattle.std.specs.Prelude.{◌≡◌, ◌≢◌, ◌⊎◌, ℕ, ◌+◌, ◌<◌, ◌≤◌, false, List, [], ◌∷◌, ◌++◌, length, map, slice_get, slice_index, Option, Some, None}
use Rattle.rl_word.specs.Shapes.{TheShape}
use Rattle.rl_word.specs.declared.shapes.Knobs.{Knobs}
use Rattle.rl_word.specs.declared.acts.Atom.{Atom}
use Rattle.rl_word.specs.declared.acts.Atom.TheVariants.{Load, Store}
use Rattle.rl_step.specs.declared.events.Standing.TheVariants.{Writer}
use Rattle.rl_step.specs.Do.{TheWindow, do_got}
use Rattle.rl_volume.specs.Walk.{most_reads}
use Rattle.rl_volume.specs.Words.{volume_words}
use Rattle.rl_site.specs.Site.{Site, count_word, volume_base, WaySite}
use Rattle.rl_core.specs.ShardTables.{ShardTable}
use Rattle.rl_model.specs.Call.{is_update}
use Rattle.rl_combine.specs.declared.stage.CombineStage.{CombineStage}
use Rattle.rl_combine.specs.declared.stage.CombineStage.TheVariants.{Count, Sweep, Copy, Read, Answer, Mark, Collect}
use Rattle.rl_combine.specs.Posts.{post_word, flag_word}
use Rattle.rl_combine.specs.Combine.{TheCombineSide, early, found}
use Rattle.rl_combine.specs.CombineGood.{RankSide}
use Rattle.rl_combine.specs.Sweep.{FlagSays, FlagMoves}
use Rattle.rl_rank.specs.declared.whole.WholeView.{WholeView}

-- the rank whose answer is stored or marked at this stage
abbrev pub answers : CombineStage → Option ℕ
answers (Answer owner made) = Some owner
answers (Mark owner) = Some owner
answers _ = None

module _ {V : Type 0} (T : ShardTable (WholeView V TheCombineSide)) where
  -- the post words are the work's own
  abbrev pub posts : WaySite
  posts = record { site = T.site; behind = T.own_at }

  -- how a rank stands, and its side of the work
  abbrev pub rank_side : WholeView V TheCombineSide → RankSide
  rank_side x = record { standing = T.standing x; work = x.work }

  -- the words of the volume that a rank has loaded for the posted call that it does, with what it found there
  abbrev pub loaded_for_post : WholeView V TheCombineSide → List (ℕ × ℕ)
  loaded_for_post x = x.work.seen.pairs

  -- the flag of a rank
  abbrev pub flag_now : TheWindow → ℕ → ℕ
  flag_now h owner = slice_index h.words (flag_word posts owner)

  -- the next atom of a rank with this view, which gives got, ends its sweep's visit at this owner: it loads the flag and doesn't find 1, or it
  -- stores 2 there
  abbrev pub EndsVisit : ℕ → ℕ → WholeView V TheCombineSide → Type 0
  EndsVisit owner got x =
      ((x.work.stage ≡ Sweep owner) × (T.core.next x ≡ Some (Load (flag_word posts owner))) × (got ≢ 1)) ⊎
      ((x.work.stage ≡ Mark owner) × (T.core.next x ≡ Some (Store (flag_word posts owner) 2)))

  -- the nine post words of each rank live on its node, by these nodes of the ranks: so a rank that waits for its answer loads a word of its
  -- own node
  abbrev pub PostsAtHome : List ℕ → Type 0
  PostsAtHome nodes = (rank i : ℕ) → i < 9 → T.core.home (post_word posts rank i) ≡ slice_index nodes rank

  module _ (h : TheWindow) (vs : List (WholeView V TheCombineSide)) where
    -- the posts of the ranks
    pub record KeepsPosts : Type 0 where
      -- a flag of 1 stands over a posted call that isn't done, but exactly while a writer has counted it; and one of 2 over its answer
      pub says : (r : ℕ) (x : WholeView V TheCombineSide) → slice_get vs r ≡ Some x → FlagSays posts h.words (map rank_side vs) r x.work
      -- its owner alone stores 1 to a flag and takes it back to 0, and a writer alone stores 2, over a 1
      pub moves : (r k : ℕ) (x : WholeView V TheCombineSide) (at : Atom) → slice_get vs r ≡ Some x → T.core.next x ≡ Some at →
          FlagMoves posts h.words at r (rank_side x) k
      -- while it is 0 no call of its owner is done that isn't collected
      pub nothing : (r : ℕ) (x : WholeView V TheCombineSide) → slice_get vs r ≡ Some x → flag_now h r ≡ 0 → early posts h.words r x.work ≡ []
      -- a rank's open call was done once at most, by whichever rank
      pub once : (r : ℕ) (x : WholeView V TheCombineSide) → slice_get vs r ≡ Some x → length (early posts h.words r x.work) ≤ 1

    -- rank r has this view, and its sweep has found the flag 1 of this owner and not made it 2 yet
    pub record HasFound (r owner : ℕ) (x : WholeView V TheCombineSide) : Type 0 where
      pub there : slice_get vs r ≡ Some x
      pub found_it : found x.work.stage ≡ Some owner

    -- the sweeps of the ranks
    pub record KeepsSweeps : Type 0 where
      -- a sweep begins with rank 0 once the count is known, goes from rank to rank, and ends behind the last one: so it visits each
      pub begins : (r got : ℕ) (x : WholeView V TheCombineSide) → slice_get vs r ≡ Some x → x.work.stage ≡ Count →
          T.core.next x ≡ Some (Load count_word) → (T.core.after x got).view.work.stage ≡ Sweep 0
      pub goes : (r owner got : ℕ) (x : WholeView V TheCombineSide) → slice_get vs r ≡ Some x → EndsVisit owner got x →
          owner + 1 < length vs → (T.core.after x got).view.work.stage ≡ Sweep (owner + 1)
      pub covers : (r owner got : ℕ) (x : WholeView V TheCombineSide) → slice_get vs r ≡ Some x → EndsVisit owner got x →
          (T.core.after x got).view.work.stage ≡ Collect 0 → owner + 1 ≡ length vs
      -- a rank that loads a flag in its sweep and finds 1 has found it
      pub finds : (r owner : ℕ) (x : WholeView V TheCombineSide) → slice_get vs r ≡ Some x → x.work.stage ≡ Sweep owner →
          T.core.next x ≡ Some (Load (flag_word posts owner)) → flag_now h owner ≡ 1 →
          found (T.core.after x 1).view.work.stage ≡ Some owner
      -- while it has it stands as a writer, and the flag is 1
      pub writes : (r owner : ℕ) (x : WholeView V TheCombineSide) → HasFound r owner x → (T.standing x ≡ Writer) × (flag_now h owner ≡ 1)
      -- the answer of a get or hold is of now: while the rank stores it, and marks it, its place is the count
      pub now : (r owner : ℕ) (x : WholeView V TheCombineSide) → slice_get vs r ≡ Some x → answers x.work.stage ≡ Some owner →
          is_update x.work.posted ≡ false → x.work.entry.at ≡ slice_index h.words count_word
      -- it has until it stores 2 there: so it leaves the lock no sooner
      pub holds : (r owner : ℕ) (x : WholeView V TheCombineSide) (at : Atom) → HasFound r owner x → T.core.next x ≡ Some at →
          (at ≡ Store (flag_word posts owner) 2) ⊎ (found (T.core.after x (do_got at h.words h.cards)).view.work.stage ≡ Some owner)

    -- rank r has this view, and reads this word of the volume next for the posted call of this owner
    pub record ReadsFor (r owner word : ℕ) (x : WholeView V TheCombineSide) : Type 0 where
      pub there : slice_get vs r ≡ Some x
      pub reads : x.work.stage ≡ Read owner word

    -- what a rank loads of the volume for a posted call
    pub record KeepsLoads : Type 0 where
      -- the call that it does is the one that the owner has open
      pub whose : (r owner word : ℕ) (x y : WholeView V TheCombineSide) → ReadsFor r owner word x → slice_get vs owner ≡ Some y → x.work.posted ≡ y.work.call
      -- it has loaded nothing for it when it has copied the last word of the post
      pub fresh : (r owner got : ℕ) (x : WholeView V TheCombineSide) → slice_get vs r ≡ Some x → x.work.stage ≡ Copy owner 4 →
          T.core.next x ≡ Some (Load (post_word posts owner 5)) →
          loaded_for_post (T.core.after x got).view ≡ []
      -- with each load it has loaded one word more
      pub one_more : (r owner word got : ℕ) (x : WholeView V TheCombineSide) → ReadsFor r owner word x →
          T.core.next x ≡ Some (Load (volume_base + word)) → loaded_for_post (T.core.after x got).view ≡ loaded_for_post x ++ (word, got) ∷
          []
      -- and before each it has loaded fewer than the call can want: of a get fewer than 3 + 2 * overflow. So it loads no more for it
      pub few : (r owner word : ℕ) (x : WholeView V TheCombineSide) → ReadsFor r owner word x →
          length (loaded_for_post x) < most_reads T.site.geom x.work.posted
      -- and these are all its loads of the volume: whoever loads a word of it next reads so
      pub loads : (r word : ℕ) (x : WholeView V TheCombineSide) → slice_get vs r ≡ Some x →
          T.core.next x ≡ Some (Load (volume_base + word)) → word < volume_words T.site.geom → (owner : ℕ) × ReadsFor r owner word x

    pub record KeepsCombining : Type 0 where
      pub posted : KeepsPosts
      pub sweeps : KeepsSweeps
      pub loads : KeepsLoads

-- so live the posts on every shard whose machine is defined so, by the nodes of the shape
abbrev pub PostsAtHomeAsDefined : {V : Type 0} → (TheShape → ℕ → Knobs → Site → ShardTable (WholeView V TheCombineSide)) → Type 0
PostsAtHomeAsDefined defined = (shape : TheShape) (home : ℕ) (knobs : Knobs) (site : Site) → PostsAtHome (defined shape home knobs site) shape.node_of
