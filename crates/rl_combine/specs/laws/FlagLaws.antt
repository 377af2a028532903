-- The promises of a sweep and of the flags.
use Rattle.std.specs.Prelude.{◌≡◌, ◌≢◌, ◌⊎◌, ℕ, suc, ◌+◌, ◌*◌, ◌<◌, ◌≤◌, ◌^◌, ◌==◌, Bool, true, false, cond, List, [], ◌∷◌, ◌++◌, All, length, slice_get, slice_index, slice_set, Option, Some, None, refl}
use Rattle.std.proofs.Common.{sym, ◌∙◌, ap, subst, inl, inr, ⊎_elim, arith, length-append, get_or-set_other}
use Rattle.std.proofs.lemmas.List.{get_or-append-add}
use Rattle.std.proofs.lemmas.List.Elements.{All-get_or}
use Rattle.std.proofs.lemmas.Option.{same_Some}
use Rattle.rl_word.specs.laws.Places.{same_or_not, get_map}
use Rattle.rl_word.specs.declared.acts.Atom.{Atom}
use Rattle.rl_word.specs.declared.acts.Atom.TheVariants as atom
use Rattle.rl_model.specs.declared.entry.Entry.{Entry}
use Rattle.rl_model.specs.Call.{is_update}
use Rattle.rl_volume.specs.declared.write.Write.{Write}
use Rattle.rl_volume.specs.Seen.{next_word}
use Rattle.rl_journal.specs.Journal.{spelling}
use Rattle.rl_journal.specs.Legal.{IsLegalRead}
use Rattle.rl_work.specs.declared.stage.Stage.TheVariants as block
use Rattle.rl_site.specs.Site.{count_word, volume_base, journal_base, journal_by, WaySite}
use Rattle.rl_site.specs.Transcript.{TheTranscript}
use Rattle.rl_work.specs.Ways.{Worked, IsApart, IsLaid}
use Rattle.rl_work.specs.Work.{write_atom, work_atom, more_entries}
use Rattle.rl_work.specs.WorkGood.{WorkSide as Seat, transcript_of}
use Rattle.rl_work.specs.laws.RuleLaws.{always_legal}
use Rattle.rl_combine.specs.declared.stage.CombineStage.{CombineStage}
use Rattle.rl_combine.specs.declared.stage.CombineStage.TheVariants.{Rest, Post, Raise, Look, Count, Sweep, Copy, Read, Journal, Volume, Answer, Mark, Collect, Lower}
use Rattle.rl_combine.specs.Posts.{ThePost, combine_ranks, post_word, flag_word, post_of, answered_entry}
use Rattle.rl_combine.specs.Combine.{TheCombineSide, opened_of, combine_after, combine_table, combine_is_open, early, combine_stage_atom, combine_stage_after, combine_to_stage, to_collect, with_copied, with_posted, combine_with_word, combine_read_next, combine_read_on, combine_written_on, found}
use Rattle.rl_combine.specs.laws.Cases.{decided_stage}
use Rattle.rl_combine.specs.CombineGood.{RankSide, front_of, IsAnswered, Progress, waits, handled, counted, answered, IsPosted, OwnAt, SweepAt, CombineGood, deciding}
use Rattle.rl_combine.specs.Sweep.{after_all, atoms_of, StoresTwo, IsLate, FlagSays, StoresFlag, FlagMoves, passes, raises, lowers, marks}
use Rattle.rl_combine.specs.laws.PostLaws.{others_stay, posts_stay, flag_stored}
use Rattle.rl_combine.specs.laws.MoveLaws.{seat_of, is_rank}
use Rattle.rl_combine.specs.laws.OwnLaws.{found_flag}
use Rattle.rl_combine.specs.laws.SeatLaws.{seat_word}
use Rattle.rl_combine.specs.laws.LateLaws.{none_of, one_of, late_by, late_says}

-- where the flag that was found 1 is held on, and the rank's own entries stay
abbrev GoesOn : TheCombineSide → ℕ → Worked TheCombineSide → Type 0
GoesOn x owner t = (found t.work.stage ≡ Some owner) × (t.work.kept ≡ x.kept)

by_test : (x : TheCombineSide) (owner : ℕ) (b : Bool) (s t : Worked TheCombineSide) → GoesOn x owner s → GoesOn x owner t → GoesOn x owner (cond b s t)
by_test x owner true s t a c = a
by_test x owner false s t a c = c

reads_on : (S : WaySite) (y : TheCombineSide) (owner : ℕ) → GoesOn y owner (combine_read_on S y owner)
reads_on S y owner = by_next (next_word S.site.geom y.posted y.seen.pairs) where
  by_kind : (b : Bool) → found (decided_stage owner b) ≡ Some owner
  by_kind true = refl
  by_kind false = refl

  by_next : (o : Option ℕ) → GoesOn y owner (combine_read_next S y owner o)
  by_next (Some word) = (refl, refl)
  by_next None = (by_kind (is_update y.posted), refl)

writes_on : (x : TheCombineSide) (owner made : ℕ) (o : Option Write) → GoesOn x owner (combine_written_on x owner made o)
writes_on x owner made (Some w) = (refl, refl)
writes_on x owner made None = (refl, refl)

at_owner : (x : TheCombineSide) (j owner : ℕ) (t : Worked TheCombineSide) → ◌≡◌ {A = Option ℕ} (Some j) (Some owner) → GoesOn x j t → GoesOn x owner t
at_owner x j owner t e on = (on.0 ∙ e, on.1)

-- so it is until 2 is stored there
goes_on : (S : WaySite) (r : ℕ) (x : TheCombineSide) (got owner : ℕ) (st : CombineStage) → found st ≡ Some owner →
    ((st ≡ Mark owner) × ((combine_stage_after S r x got st).work.kept ≡ x.kept)) ⊎ GoesOn x owner (combine_stage_after S r x got st)
goes_on S r x got owner Rest e = absurd (cc)
goes_on S r x got owner (Post made) e = absurd (cc)
goes_on S r x got owner Raise e = absurd (cc)
goes_on S r x got owner Look e = absurd (cc)
goes_on S r x got owner Count e = absurd (cc)
goes_on S r x got owner (Sweep j) e = absurd (cc)
goes_on S r x got owner (Copy j made) e =
    inr (at_owner x j owner (combine_stage_after S r x got (Copy j made)) e (by_test x j (made + 1 == 5) (combine_read_on S (with_posted S (with_copied x got)) j)
    (combine_to_stage (with_copied x got) (Copy j (made + 1))) (reads_on S (with_posted S (with_copied x got)) j) (refl, refl)))
goes_on S r x got owner (Read j word) e = inr (at_owner x j owner (combine_stage_after S r x got (Read j word)) e (reads_on S (combine_with_word x word got) j))
goes_on S r x got owner (Journal j made) e =
    inr (at_owner x j owner (combine_stage_after S r x got (Journal j made)) e (by_test x j (made + 1 == 6) (combine_to_stage x (Volume j 0)) (combine_to_stage x (Journal j (made + 1))) (refl, refl) (refl, refl)))
goes_on S r x got owner (Volume j made) e = inr (at_owner x j owner (combine_stage_after S r x got (Volume j made)) e (writes_on x j made (slice_get x.writes made)))
goes_on S r x got owner (Answer j made) e =
    inr (at_owner x j owner (combine_stage_after S r x got (Answer j made)) e (by_test x j (made + 1 == 3) (combine_to_stage x (Mark j)) (combine_to_stage x (Answer j (made + 1))) (refl, refl) (refl, refl)))
goes_on S r x got owner (Mark j) e = inl (ap (λ n. Mark n) (same_Some j owner e), over (j + 1 == combine_ranks S)) where
  over : (b : Bool) → (cond b (to_collect x) (combine_to_stage x (Sweep (j + 1)))).work.kept ≡ x.kept
  over true = refl
  over false = refl
goes_on S r x got owner (Collect made) e = absurd (cc)
goes_on S r x got owner Lower e = absurd (cc)

pub holds_on : (S : WaySite) (r : ℕ) (x : TheCombineSide) (got owner : ℕ) (st : CombineStage) → found st ≡ Some owner →
    (st ≡ Mark owner) ⊎ (found (combine_stage_after S r x got st).work.stage ≡ Some owner)
holds_on S r x got owner st e = ⊎_elim (λ stores. inl stores.0) (λ on. inr on.0) (goes_on S r x got owner st e)

pub found_keeps : (S : WaySite) (r : ℕ) (x : TheCombineSide) (got owner : ℕ) (st : CombineStage) → found st ≡ Some owner →
    (combine_stage_after S r x got st).work.kept ≡ x.kept
found_keeps S r x got owner st e = ⊎_elim (λ stores. stores.1) (λ on. on.1) (goes_on S r x got owner st e)

pub found_open : (st : CombineStage) (owner : ℕ) → found st ≡ Some owner → combine_is_open st ≡ true
found_open Rest owner e = absurd (cc)
found_open (Post made) owner e = refl
found_open Raise owner e = refl
found_open Look owner e = refl
found_open Count owner e = refl
found_open (Sweep j) owner e = refl
found_open (Copy j made) owner e = refl
found_open (Read j word) owner e = refl
found_open (Journal j made) owner e = refl
found_open (Volume j made) owner e = refl
found_open (Answer j made) owner e = refl
found_open (Mark j) owner e = refl
found_open (Collect made) owner e = refl
found_open Lower owner e = refl

-- so where the call is over, 2 was stored
stores_two : (S : WaySite) (r : ℕ) (x : TheCombineSide) (owner : ℕ) (more : List ℕ) → found x.stage ≡ Some owner →
    combine_is_open (after_all S r x more).stage ≡ false → StoresTwo S owner (atoms_of S r x more)
stores_two S r x owner [] held over = let is = found_open x.stage owner held in absurd (cc)
stores_two S r x owner (got ∷ more) held over =
    ⊎_elim
    (λ (at : x.stage ≡ Mark owner). record { place = 0; is = ap (λ st. Some (combine_stage_atom S r x st)) at })
    (λ (still : found (combine_after S r x got).work.stage ≡ Some owner).
    let later : StoresTwo S owner (atoms_of S r (combine_after S r x got).work more) = stores_two S r (combine_after S r x got).work owner more still over in
    record { place = suc later.place; is = later.is })
    (holds_on S r x got owner x.stage held)

-- a rank that found the flag 1 in its sweep has stored 2 there before its call is over
pub sweep_stores : (S : WaySite) (r : ℕ) (x : TheCombineSide) (owner : ℕ) (more : List ℕ) → x.stage ≡ Sweep owner →
    combine_is_open (after_all S r x (1 ∷ more)).stage ≡ false → StoresTwo S owner (atoms_of S r x (1 ∷ more))
sweep_stores S r x owner more at over =
    let held : found (combine_after S r x 1).work.stage ≡ Some owner = ap (λ st. found (combine_stage_after S r x 1 st).work.stage) at in
    let later : StoresTwo S owner (atoms_of S r (combine_after S r x 1).work more) = stores_two S r (combine_after S r x 1).work owner more held over in
    record { place = suc later.place; is = later.is }

module _ (S : WaySite) (node : ℕ → ℕ) (words : List ℕ) (laid : IsLaid (combine_table S node) words) (sides : List RankSide)
    (g : CombineGood S words sides) (k : ℕ) (x : RankSide) (has : slice_get sides k ≡ Some x) where
  -- the call of a seat that has the entry of the answer is answered as is due
  due_of : (y : Seat) (e : Entry) → slice_get g.seats k ≡ Some y → y.work.transcript ≡ more_entries x.work.kept (e ∷ []) →
      IsLegalRead S.site.geom (journal_by S.site words) e
  due_of y e seat has_one =
      let items : List Entry = x.work.kept.items in
      let all : All (IsLegalRead S.site.geom (journal_by S.site words)) (items ++ e ∷ []) =
      (always_legal S.site (front_of S words) g.seats g.work).reads_are k (items ++ e ∷ [])
      (get_map transcript_of g.seats k y seat ∙ ap (λ (t : TheTranscript). Some t.items) has_one) in
      subst (IsLegalRead S.site.geom (journal_by S.site words)) (get_or-append-add items (e ∷ []) 0 e)
      (All-get_or (IsLegalRead S.site.geom (journal_by S.site words)) (items ++ e ∷ []) (length items + 0) e (omega (arith, length-append items (e ∷ []))) all)

  -- what a flag of 0 says, and that of a posted call
  zero_says : (post_of S words k).flag ≡ 0 → FlagSays S words sides k x.work
  zero_says low =
      record {
        few = inl low;
        posted = λ one. absurd (omega arith);
        not_done = λ one. absurd (omega arith);
        late = late_says S node words laid sides g k x has;
        done = λ two. absurd (omega arith);
        due = λ two. absurd (omega arith);
      }

  done_says : (y : Seat) → slice_get g.seats k ≡ Some y → combine_is_open x.work.stage ≡ true →
      IsAnswered S (post_of S words k) k (opened_of x.work) y → FlagSays S words sides k x.work
  done_says y seat is a =
      let two : (post_of S words k).flag ≡ 2 = a.flag in
      let e : Entry = answered_entry S.site.shard k x.work.seq x.work.call (post_of S words k).answer in
      record {
        few = inr (inr two);
        posted = λ one. absurd (omega arith);
        not_done = λ one. absurd (omega arith);
        late = late_says S node words laid sides g k x has;
        done = λ _. (is, one_of S node words laid sides g k x has y e seat a.free.has);
        due = λ _. due_of y e seat a.free.has;
      }

  posted_says : (y : Seat) → slice_get g.seats k ≡ Some y → combine_is_open x.work.stage ≡ true →
      IsPosted S (post_of S words k) k (opened_of x.work) y → FlagSays S words sides k x.work
  posted_says y seat is p = by_case p.progress where
    raised : (post_of S words k).flag ≡ 1 → (early S words k x.work ≡ []) ⊎ IsLate sides k x.work → FlagSays S words sides k x.work
    raised one open_still =
        record {
          few = inr (inl one);
          posted = λ _. (is, p.spelled);
          not_done = λ _. open_still;
          late = late_says S node words laid sides g k x has;
          done = λ two. absurd (omega arith);
          due = λ two. absurd (omega arith);
        }

    by_case : Progress S (post_of S words k) k (opened_of x.work) y → FlagSays S words sides k x.work
    by_case (waits w) = raised w.flag (inl (none_of S node words laid sides g k x has y seat w.free.has))
    by_case (handled h) = raised h.flag (inl (none_of S node words laid sides g k x has y seat h.has))
    by_case (counted c) = raised c.flag (inr (late_by S node words laid sides g k x has y seat c))
    by_case (answered a) = done_says y seat is a

  says_at : (y : Seat) → slice_get g.seats k ≡ Some y → (st : CombineStage) → x.work.stage ≡ st → OwnAt S (post_of S words k) k x y st →
      FlagSays S words sides k x.work
  says_at y seat Rest e o = zero_says o.1
  says_at y seat (Post made) e o = zero_says o.2.flag
  says_at y seat Raise e o = zero_says o.1.flag
  says_at y seat Look e o = posted_says y seat (ap combine_is_open e) o.1
  says_at y seat Count e o = posted_says y seat (ap combine_is_open e) o.1
  says_at y seat (Sweep owner) e o = posted_says y seat (ap combine_is_open e) o.1
  says_at y seat (Copy owner made) e o = posted_says y seat (ap combine_is_open e) o.1
  says_at y seat (Read owner word) e o = posted_says y seat (ap combine_is_open e) o.1
  says_at y seat (Journal owner made) e o = posted_says y seat (ap combine_is_open e) o.1
  says_at y seat (Volume owner made) e o = posted_says y seat (ap combine_is_open e) o.1
  says_at y seat (Answer owner made) e o = posted_says y seat (ap combine_is_open e) o.1
  says_at y seat (Mark owner) e o = posted_says y seat (ap combine_is_open e) o.1
  says_at y seat (Collect made) e o = done_says y seat (ap combine_is_open e) o.2.done
  says_at y seat Lower e o = done_says y seat (ap combine_is_open e) o.1.done

  pub flag_says : FlagSays S words sides k x.work
  flag_says = let s = seat_of S node words laid sides g k x has in says_at s.0 s.1 x.work.stage refl (g.own k x s.0 has s.1)

  -- a flag of 2 stands over an answer whose place fits
  abbrev SmallAt : Type 0
  SmallAt = (post_of S words k).flag ≡ 2 → slice_index (post_of S words k).answer 0 < 2 ^ 32

  posted_small : (y : Seat) → IsPosted S (post_of S words k) k (opened_of x.work) y → SmallAt
  posted_small y p two = by_case p.progress where
    by_case : Progress S (post_of S words k) k (opened_of x.work) y → slice_index (post_of S words k).answer 0 < 2 ^ 32
    by_case (waits w) = absurd (let one = w.flag in omega arith)
    by_case (handled h) = absurd (let one = h.flag in omega arith)
    by_case (counted c) = absurd (let one = c.flag in omega arith)
    by_case (answered a) = a.small

  small_at : (y : Seat) → (st : CombineStage) → OwnAt S (post_of S words k) k x y st → SmallAt
  small_at y Rest o two = absurd (let low = o.1 in omega arith)
  small_at y (Post made) o two = absurd (let low = o.2.flag in omega arith)
  small_at y Raise o two = absurd (let low = o.1.flag in omega arith)
  small_at y Look o two = posted_small y o.1 two
  small_at y Count o two = posted_small y o.1 two
  small_at y (Sweep owner) o two = posted_small y o.1 two
  small_at y (Copy owner made) o two = posted_small y o.1 two
  small_at y (Read owner word) o two = posted_small y o.1 two
  small_at y (Journal owner made) o two = posted_small y o.1 two
  small_at y (Volume owner made) o two = posted_small y o.1 two
  small_at y (Answer owner made) o two = posted_small y o.1 two
  small_at y (Mark owner) o two = posted_small y o.1 two
  small_at y (Collect made) o two = o.2.done.small
  small_at y Lower o two = o.1.done.small

  pub answer_small : SmallAt
  answer_small = let s = seat_of S node words laid sides g k x has in small_at s.0 x.work.stage (g.own k x s.0 has s.1)

-- who stores to the flags
module _ (S : WaySite) (node : ℕ → ℕ) (words : List ℕ) (laid : IsLaid (combine_table S node) words) (sides : List RankSide)
    (g : CombineGood S words sides) (apart : IsApart (combine_table S node) sides) (r : ℕ) (x : RankSide) (has : slice_get sides r ≡ Some x)
    (k : ℕ) where
  abbrev Moves : Atom → Type 0
  Moves at = FlagMoves S words at r x k

  -- a load
  no_store : (w : ℕ) → Moves (atom.Load w)
  no_store w = passes (λ e. e) refl

  -- a store to a word of a post, which is no flag
  no_flag : (owner i v : ℕ) → 1 ≤ i → i < 9 → Moves (atom.Store (post_word S owner i) v)
  no_flag owner i v low few = passes (λ (e : post_word S owner i ≡ flag_word S k). absurd (omega arith))
      (get_or-set_other words (post_word S owner i) (post_word S k 0) v 0 (λ e. absurd (omega arith)))

  flag_set : (owner v : ℕ) → owner < combine_ranks S → (k ≡ owner → Moves (atom.Store (post_word S owner 0) v)) → Moves (atom.Store (post_word S owner 0) v)
  flag_set owner v there same =
      ⊎_elim
      (λ (e : k ≡ owner). same e)
      (λ (ne : k ≢ owner). passes (λ (e : post_word S owner 0 ≡ flag_word S k). absurd (ne (omega arith)))
      (ap (λ (p : ThePost). p.flag) (others_stay S words owner 0 v k (omega arith) ne)))
      (same_or_not k owner)

  stored : (owner was v : ℕ) → owner < combine_ranks S → (post_of S words owner).flag ≡ was → k ≡ owner →
      StoresFlag S words (atom.Store (post_word S owner 0) v) k was v
  stored owner was v there is same =
      record {
        store = ap (λ n. atom.Store (post_word S n 0) v) (sym same);
        before = subst (λ n. (post_of S words n).flag ≡ was) (sym same) is;
        after = subst (λ n. (post_of S (slice_set words (post_word S owner 0) v) n).flag ≡ v) (sym same)
            (ap (λ (p : ThePost). p.flag) (flag_stored S words owner v there laid.all));
      }

  front_store : (w v : ℕ) → w < S.behind → Moves (atom.Store w v)
  front_store w v low = passes (λ (e : w ≡ flag_word S k). absurd (omega arith)) (ap (λ (p : ThePost). p.flag) (posts_stay S words w v k low))

  pub flag_moves : (at : Atom) → combine_stage_atom S r x.work x.work.stage ≡ Some at → Moves at
  flag_moves at planned =
      let s = seat_of S node words laid sides g r x has in
      by_stage s.0 x.work.stage refl (g.own r x s.0 has s.1) (g.sweeps r x has) planned
    where
      rank : r < combine_ranks S
      rank = is_rank S node words laid sides g r x has

      here : (a : Atom) → Moves a → Some a ≡ Some at → Moves at
      here a is e = subst Moves (same_Some _ _ e) is

      by_write : (owner made : ℕ) (y : Seat) → slice_get g.seats owner ≡ Some y → (o : Option Write) →
          work_atom S.site.geom y.work ≡ Some (write_atom (x.work.count + 1) o) → Moves (write_atom (x.work.count + 1) o)
      by_write owner made y there (Some w) p =
          front_store (volume_base + w.word) w.value (let l = laid.low in let h = seat_word S node words laid sides g apart r x has owner y
          there (volume_base + w.word) w.value p in omega arith)
      by_write owner made y there None p = front_store count_word (x.work.count + 1) (let l = laid.low in omega arith)

      by_stage : (y : Seat) (st : CombineStage) → x.work.stage ≡ st → OwnAt S (post_of S words r) r x y st →
          SweepAt S words g.seats r x.work st → combine_stage_atom S r x.work st ≡ Some at → Moves at
      by_stage y Rest e o w p = absurd (cc)
      by_stage y (Post made) e o w p = let few = o.1 in here _ (no_flag r (1 + made) _ (omega arith) (omega arith)) p
      by_stage y Raise e o w p = here _ (flag_set r 1 rank (λ same. raises same (stored r 0 1 rank o.1.flag same))) p
      by_stage y Look e o w p = here _ (no_store (flag_word S r)) p
      by_stage y Count e o w p = here _ (no_store count_word) p
      by_stage y (Sweep owner) e o w p = here _ (no_store (flag_word S owner)) p
      by_stage y (Copy owner made) e o w p = here _ (no_store (post_word S owner (1 + made))) p
      by_stage y (Read owner word) e o w p = here _ (no_store (volume_base + word)) p
      by_stage y (Journal owner made) e o w p =
          here _ (front_store (journal_base S.site.geom + (6 * x.work.count + made)) _ (let l = laid.low in
          let h = seat_word S node words laid sides g apart r x has owner (deciding x.work (block.Journal made) w.1.seen w.1.t) w.1.seat
          (journal_base S.site.geom + (6 * x.work.count + made)) (slice_index (spelling x.work.entry) made) refl in
          omega arith)) p
      by_stage y (Volume owner made) e o w p =
          here _ (by_write owner made (deciding x.work (block.Volume made) w.1.seen w.1.t) w.1.seat (slice_get x.work.writes made) refl) p
      by_stage y (Answer owner made) e o w p = let few = w.1 in here _ (no_flag owner (6 + made) _ (omega arith) (omega arith)) p
      by_stage y (Mark owner) e o w p =
          here _ (flag_set owner 2 w.0.there (λ same. marks o.0 (e ∙ ap (λ n. Mark n) (sym same))
          (stored owner 1 2 w.0.there (found_flag S node words laid sides g r x has owner (ap found e)) same))) p
      by_stage y (Collect made) e o w p = here _ (no_store (post_word S r (6 + made))) p
      by_stage y Lower e o w p = here _ (flag_set r 0 rank (λ same. lowers same (stored r 2 0 rank o.1.done.flag same))) p
