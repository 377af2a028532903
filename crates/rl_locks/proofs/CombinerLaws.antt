-- Under the rule of flat combining over any lock flags say what they have to, and a flag that was found 1 is made 2.
use Rattle.std.proofs.Common.{◌≡◌, ◌≢◌, ℕ, ◌+◌, ◌*◌, ◌<◌, ◌≤◌, ◌==◌, Bool, true, false, ◌||◌, cond, count_by, List, [], ◌∷◌, ◌++◌, length, map, slice_get, slice_index, Option, Some, None, refl, sym, ap, ◌∙◌, subst, inl, inr, ⊎_elim, arith}
use Rattle.std.proofs.lemmas.Bool.Decides.{nat_tests}
use Rattle.std.proofs.lemmas.List.{length-map}
use Rattle.std.proofs.lemmas.Option.{same_Some, slice_get_within}
use Rattle.rl_word.specs.laws.Places.{get_map, get_map_back}
use Rattle.rl_word.specs.Acts.{Layout}
use Rattle.rl_word.specs.declared.acts.Atom.{Atom}
use Rattle.rl_word.specs.declared.acts.Atom.TheVariants as atom
use Rattle.rl_word.specs.declared.acts.Atom.TheVariants.{Load}
use Rattle.rl_model.specs.declared.call.Call.{Call}
use Rattle.rl_model.specs.declared.entry.Entry.{Entry}
use Rattle.rl_model.specs.Call.{is_update}
use Rattle.rl_step.specs.declared.events.Event.{Event}
use Rattle.rl_step.specs.declared.events.Standing.TheVariants.{Writer}
use Rattle.rl_step.specs.Core.{Turned}
use Rattle.rl_step.specs.Do.{do_got}
use Rattle.rl_step.specs.Lock.{LockTable, LockState, Deed, Rests}
use Rattle.rl_volume.specs.Seen.{SeenWords, next_word}
use Rattle.rl_volume.specs.Walk.{most_reads}
use Rattle.rl_volume.specs.Words.{volume_words}
use Rattle.rl_volume.specs.declared.write.Write.{Write}
use Rattle.rl_work.specs.declared.stage.Stage.{Stage as BlockStage}
use Rattle.rl_work.specs.declared.stage.Stage.TheVariants as block
use Rattle.rl_work.specs.laws.AtomLaws.{few_loads}
use Rattle.rl_site.specs.Site.{count_word, volume_base, lock_base, WaySite}
use Rattle.rl_work.specs.Ways.{IsSide}
use Rattle.rl_work.specs.Work.{TheWork, WorkTurned, stage_atom as block_atom, stage_after as block_after, with_seen, write_atom, left_of, at_rest}
use Rattle.rl_work.specs.WorkGood.{WorkSide as Seat, FitsAt as BlockFits, IsReading as SeatReading}
use Rattle.rl_core.specs.ShardTables.{ShardTable}
use Rattle.rl_core.specs.Moments.{Moment}
use Rattle.rl_combine.specs.declared.stage.CombineStage.{CombineStage}
use Rattle.rl_combine.specs.declared.stage.CombineStage.TheVariants.{Sweep, Copy, Read, Journal, Volume, Answer, Mark, Rest, Post, Raise, Look, Count, Collect, Lower}
use Rattle.rl_combine.specs.Posts.{ThePost, combine_ranks, post_of, post_word, flag_word}
use Rattle.rl_combine.specs.Combine.{TheCombineSide, Opened, opened_of, combine_table, early, combine_is_open, combine_stage_atom, combine_stage_after, combine_read_next, sweep_on, to_collect, combine_to_stage, with_nothing, with_posted, with_copied, combine_with_word, found}
use Rattle.rl_combine.specs.CombineGood.{RankSide, CombineGood, OwnAt, SweepAt, Progress, waits, handled, counted, answered, IsPosted, IsCounted, IsLeft, IsToEnd, IsAnswering, IsReading, reading, front_of}
use Rattle.rl_combine.specs.Sweep.{IsLate, IsLateAt, FlagSays, MayWrite, FlagMoves, passes, raises, lowers, marks}
use Rattle.rl_combine.specs.laws.PostLaws.{front_get}
use Rattle.rl_combine.specs.laws.SideLaws.{posted_at}
use Rattle.rl_combine.specs.laws.SeatLaws.{counted_as}
use Rattle.rl_combine.specs.laws.LookLaws.{handed_at, no_more_entries}
use Rattle.rl_combine.specs.laws.MoveLaws.{Combines, combiner_of, seat_of, side_of}
use Rattle.rl_combine.specs.laws.OwnLaws.{found_flag}
use Rattle.rl_combine.specs.laws.TranscriptLaws.{HasNone, HasOne, shown}
use Rattle.rl_combine.specs.laws.FlagLaws.{holds_on, found_keeps, found_open, flag_says, flag_moves}
use Rattle.rl_rank.specs.declared.whole.WholeView.{WholeView}
use Rattle.rl_rank.specs.Running.{LockAt, Goods, BothLaws}
use Rattle.rl_rank.specs.laws.ShiftLaws.{IsLow}
use Rattle.rl_rank.specs.Split.{side_atom}
use Rattle.rl_rank.specs.Whole.{shifted, work_side, next_of, after_of, work_turned, counts, is_at_work, leaves}
use Rattle.rl_rank.specs.laws.WholeLaws.{lock_low, works_at, next_either}
use Rattle.rl_rank.specs.laws.Bridge.{same_work}
use Rattle.rl_rank.specs.WholeShards.{stand, standing_while, whole_shard, WholeGood}
use Rattle.rl_rank.specs.laws.AtWork.{IsOfLock, IsOfWork, side_at, each_atom}
use Rattle.rl_locks.proofs.SweepLaws.{GoesOnFound}
use Rattle.rl_locks.specs.Combining.{answers, rank_side, EndsVisit, ReadsFor, KeepsCombining}
use Rattle.rl_locks.proofs.DecidedLaws.{read_at}
use Rattle.rl_locks.proofs.LockAtoms.{loads_of_lock, works_at_rest}

-- a rank whose sweep has found a flag combines
found_combines : (st : CombineStage) (owner : ℕ) → found st ≡ Some owner → Combines st
found_combines Rest owner e = absurd (cc)
found_combines (Post made) owner e = absurd (cc)
found_combines Raise owner e = absurd (cc)
found_combines Look owner e = absurd (cc)
found_combines Count owner e = absurd (cc)
found_combines (Sweep j) owner e = absurd (cc)
found_combines (Copy j made) owner e = tt
found_combines (Read j word) owner e = tt
found_combines (Journal j made) owner e = tt
found_combines (Volume j made) owner e = tt
found_combines (Answer j made) owner e = tt
found_combines (Mark j) owner e = tt
found_combines (Collect made) owner e = absurd (cc)
found_combines Lower owner e = absurd (cc)

-- and so does one that is late
late_combines : (st : CombineStage) (k : ℕ) → IsLateAt st k → Combines st
late_combines Rest k l = absurd l
late_combines (Post made) k l = absurd l
late_combines Raise k l = absurd l
late_combines Look k l = absurd l
late_combines Count k l = tt
late_combines (Sweep j) k l = tt
late_combines (Copy j made) k l = tt
late_combines (Read j word) k l = tt
late_combines (Journal j made) k l = tt
late_combines (Volume j made) k l = tt
late_combines (Answer j made) k l = tt
late_combines (Mark j) k l = tt
late_combines (Collect made) k l = absurd l
late_combines Lower k l = absurd l

-- a load for a call changes what was seen by that load alone
reads_keep : (S : WaySite) (x : TheCombineSide) (owner : ℕ) (o : Option ℕ) → (combine_read_next S x owner o).work.seen ≡ x.seen
reads_keep S x owner (Some word) = refl
reads_keep S x owner None = refl

-- numbers that are tested
same_number : (a b : ℕ) → (a == b) ≡ true → a ≡ b
same_number a b q = grind (arith, nat_tests)

less_differs : (a b : ℕ) → a < b → (a == b) ≡ false
less_differs a b low = grind (arith, nat_tests)

differs : (a b : ℕ) → a ≢ b → (a == b) ≡ false
differs a b ne = elim (a == b) as (λ c. (a == b) ≡ c → c ≡ false) [ true ↦ λ q. absurd (ne (same_number a b q)) | false ↦ λ q. refl ] refl

-- a sweep goes on with a rank that there is, and behind the last one it is over
sweeps_on : (S : WaySite) (x : TheCombineSide) (owner : ℕ) → owner < combine_ranks S → (sweep_on S x owner).work.stage ≡ Sweep owner
sweeps_on S x owner low = ap (λ b. (cond b (to_collect x) (combine_to_stage x (Sweep owner))).work.stage) (less_differs owner (combine_ranks S) low)

sweep_over : (S : WaySite) (x : TheCombineSide) (owner : ℕ) → (sweep_on S x owner).work.stage ≡ Collect 0 → owner ≡ combine_ranks S
sweep_over S x owner e =
    elim (owner == combine_ranks S) as (λ b. (owner == combine_ranks S) ≡ b → (cond b (to_collect x) (combine_to_stage x (Sweep owner))).work.stage ≡ Collect 0 → owner ≡ combine_ranks S) [
      | true ↦ λ q over. same_number owner (combine_ranks S) q
      | false ↦ λ q over. absurd (cc)
    ] refl e

-- a flag of 0 stands over a call that isn't posted, or over none: the rank's seat has the entries that the rank keeps
not_posted : (S : WaySite) (p : ThePost) (r : ℕ) (o : Opened) (y : Seat) → IsPosted S p r o y → p.flag ≡ 0 → ⊥
not_posted S p r o y is zero = by_case is.progress where
  by_case : Progress S p r o y → ⊥
  by_case (waits w) = let one = w.flag in absurd (omega arith)
  by_case (handled i) = let one = i.flag in absurd (omega arith)
  by_case (counted c) = let one = c.flag in absurd (omega arith)
  by_case (answered a) = let two = a.flag in absurd (omega arith)

none_early : (S : WaySite) (p : ThePost) (r : ℕ) (z : RankSide) (y : Seat) (st : CombineStage) → OwnAt S p r z y st → p.flag ≡ 0 → y.work.transcript ≡ z.work.kept
none_early S p r z y Rest o e = o.2.has
none_early S p r z y (Post made) o e = o.2.free.has
none_early S p r z y Raise o e = o.1.free.has
none_early S p r z y Look o e = absurd (not_posted S p r (opened_of z.work) y o.1 e)
none_early S p r z y Count o e = absurd (not_posted S p r (opened_of z.work) y o.1 e)
none_early S p r z y (Sweep j) o e = absurd (not_posted S p r (opened_of z.work) y o.1 e)
none_early S p r z y (Copy j made) o e = absurd (not_posted S p r (opened_of z.work) y o.1 e)
none_early S p r z y (Read j word) o e = absurd (not_posted S p r (opened_of z.work) y o.1 e)
none_early S p r z y (Journal j made) o e = absurd (not_posted S p r (opened_of z.work) y o.1 e)
none_early S p r z y (Volume j made) o e = absurd (not_posted S p r (opened_of z.work) y o.1 e)
none_early S p r z y (Answer j made) o e = absurd (not_posted S p r (opened_of z.work) y o.1 e)
none_early S p r z y (Mark j) o e = absurd (not_posted S p r (opened_of z.work) y o.1 e)
none_early S p r z y (Collect made) o e = let two = o.2.done.flag in absurd (omega arith)
none_early S p r z y Lower o e = let two = o.1.done.flag in absurd (omega arith)

module _ (V : Type 0) (base : ℕ) (table : LockTable V) (S : WaySite) (node : ℕ → ℕ) (lock_good : LockState V → Type 0) where
  abbrev pub L : LockAt V TheCombineSide
  L = record { base = base; table = table; work = combine_table S node }

  abbrev pub good : Goods V TheCombineSide
  good = record { lock = lock_good; work = CombineGood S }

  -- a rank whose sweep has found a flag has its call open
  pub in_call : (home : ℕ) (x : WholeView V TheCombineSide) (owner : ℕ) → found x.work.stage ≡ Some owner → ((whole_shard L home).own x).is_open ≡ true
  in_call home x owner e = ap (λ b. is_at_work (stand table x) x.side.card || b) (found_open x.work.stage owner e) ∙ or_true (is_at_work (stand table x) x.side.card) where
    or_true : (b : Bool) → (b || true) ≡ true
    or_true true = refl
    or_true false = refl

  module _ (further : List Event → List Deed → Type 0) (layout : Layout) (laws : BothLaws L good further layout) (home : ℕ)
      (m : Moment (WholeView V TheCombineSide)) (g : WholeGood L good layout m) where
    abbrev T : ShardTable (WholeView V TheCombineSide)
    T = whole_shard L home

    -- the ranks' sides, by the lock and by the shard
    abbrev sides : List RankSide
    sides = map (work_side table) m.views

    abbrev shown_sides : List RankSide
    shown_sides = map (rank_side T) m.views

    rule : CombineGood S m.held.words sides
    rule = g.rule.work_part

    side : (r : ℕ) (x : WholeView V TheCombineSide) → slice_get m.views r ≡ Some x → IsSide (combine_table S node) (CombineGood S) m.held.words sides r (work_side table x)
    side r x has = side_at V TheCombineSide L good further layout laws home m g r x has

    -- a writer at the lock stands so on the shard
    writes_on : (x : WholeView V TheCombineSide) → stand table x ≡ Writer → T.standing x ≡ Writer
    writes_on x e = ap (λ st. standing_while st (combine_is_open x.work.stage)) e

    -- who combines writes
    combiner_writes : (r : ℕ) (x : WholeView V TheCombineSide) → slice_get m.views r ≡ Some x → Combines x.work.stage → stand table x ≡ Writer
    combiner_writes r x has c =
        let s = side r x has in
        let y = seat_of S node m.held.words s.laid sides s.is_good r (work_side table x) s.there in
        (combiner_of S (post_of S m.held.words r) r (work_side table x) y.0 x.work.stage c (s.is_good.own r (work_side table x) y.0 s.there y.1)).0

    -- the flags say so of the sides by the shard too: a writer that is late is so on both sides
    late_on : (k : ℕ) (y : TheCombineSide) → IsLate sides k y → IsLate shown_sides k y
    late_on k y l =
        let x = get_map_back (work_side table) m.views l.rank l.side l.there in
        record {
          rank = l.rank;
          side = rank_side T x.0;
          there = get_map (rank_side T) m.views l.rank x.0 x.1;
          writes = writes_on x.0 (ap (λ (z : RankSide). z.standing) x.2 ∙ l.writes);
          late = subst (λ (z : RankSide). IsLateAt z.work.stage k) (sym x.2) l.late;
          update = l.update;
        }

    late_back : (k : ℕ) (y : TheCombineSide) (l : IsLate shown_sides k y) → (late : IsLate sides k y) × (late.side.work ≡ l.side.work)
    late_back k y l =
        let x = get_map_back (rank_side T) m.views l.rank l.side l.there in
        let late : IsLateAt x.0.work.stage k = subst (λ (z : RankSide). IsLateAt z.work.stage k) (sym x.2) l.late in (
          record {
            rank = l.rank;
            side = work_side table x.0;
            there = get_map (work_side table) m.views l.rank x.0 x.1;
            writes = combiner_writes l.rank x.0 x.1 (late_combines x.0.work.stage k late);
            late = late;
            update = l.update;
          },
          ap (λ (z : RankSide). z.work) x.2,
        )

    says_on : (r : ℕ) (x : WholeView V TheCombineSide) → slice_get m.views r ≡ Some x → FlagSays S m.held.words shown_sides r x.work
    says_on r x has =
        let s = side r x has in
        let f : FlagSays S m.held.words sides r x.work = flag_says S node m.held.words s.laid sides s.is_good r (work_side table x) s.there in
        record {
          few = f.few;
          posted = f.posted;
          not_done = λ one. ⊎_elim (λ none. inl none) (λ late. inr (late_on r x.work late)) (f.not_done one);
          late = λ l.
              let late = late_back r x.work l in
              ((f.late late.0).0, (f.late late.0).1 ∙ ap (λ (z : TheCombineSide). z.entry ∷ []) late.1);
          done = f.done;
          due = f.due;
        }

    -- an atom of the lock writes no word behind the lock's
    lock_writes : (w : ℕ) (at : Atom) → IsLow table.size at → base + table.size ≤ w → MayWrite w (shifted base at) → ⊥
    lock_writes w (atom.Load v) low behind e = e
    lock_writes w (atom.Store v value) low behind e = let there : v < table.size = low in let is : base + v ≡ w = e in absurd (omega arith)
    lock_writes w (atom.LocalCas v old new) low behind e = let there : v < table.size = low in let is : base + v ≡ w = e in absurd (omega arith)
    lock_writes w (atom.Take n) low behind e = e
    lock_writes w (atom.CardLoad v) low behind e = e
    lock_writes w (atom.CardStore v value) low behind e = let there : v < table.size = low in let is : base + v ≡ w = e in absurd (omega arith)
    lock_writes w (atom.Leave n) low behind e = e

    moves_on : (r k : ℕ) (x : WholeView V TheCombineSide) (at : Atom) → slice_get m.views r ≡ Some x → next_of L x ≡ Some at → FlagMoves S m.held.words at r (rank_side T x) k
    moves_on r k x at has next =
        ⊎_elim
        (λ (q : (b : Atom) × (side_atom table x.side ≡ Some b) × (shifted base b ≡ at)). subst (λ a. FlagMoves S m.held.words a r (rank_side T x) k) q.2 (
        let low : IsLow table.size q.0 = lock_low V TheCombineSide L good further layout laws home m.held m.views g.rule r x has q.0 q.1 in
        passes (lock_writes (flag_word S k) q.0 low (let e : S.behind ≡ base + table.size = g.rule.behind_is in omega arith))
        ((same_work L g.rule.base_is g.rule.behind_is q.0 m.held.words low).behind (post_word S k 0) (omega arith))
        ))
        (λ q.
        let w = works_at V TheCombineSide L good further layout laws home m.held m.views g.rule r x has at q.1 q.2 in
        shown_moves (flag_moves S node m.held.words w.side.laid sides w.side.is_good w.apart r (work_side table x) w.side.there k at w.planned))
        (next_either V TheCombineSide L good further layout laws home x at next)
      where
        shown_moves : FlagMoves S m.held.words at r (work_side table x) k → FlagMoves S m.held.words at r (rank_side T x) k
        shown_moves (passes apart same) = passes apart same
        shown_moves (raises own is) = raises own is
        shown_moves (lowers own is) = lowers own is
        shown_moves (marks writes stage is) = marks (writes_on x writes) stage is

    once_on : (r : ℕ) (x : WholeView V TheCombineSide) → slice_get m.views r ≡ Some x → length (early S m.held.words r x.work) ≤ 1
    once_on r x has =
        let s = side r x has in
        let y = seat_of S node m.held.words s.laid sides s.is_good r (work_side table x) s.there in
        ⊎_elim
        (λ (n : HasNone S m.held.words r x.work y.0). let none : length (early S m.held.words r x.work) ≡ 0 = ap length n.none in omega arith)
        (λ (o : HasOne S m.held.words r x.work y.0). let one : length (early S m.held.words r x.work) ≡ 1 = ap length o.one in omega arith)
        (shown S m.held.words sides s.is_good r (work_side table x) y.0 y.1 s.there)

    rests_on : (r : ℕ) (x : WholeView V TheCombineSide) → slice_get m.views r ≡ Some x → Combines x.work.stage → Rests (stand table x)
    rests_on r x has c = subst Rests (sym (combiner_writes r x has c)) tt

    -- the next load of who combines is one of its work
    combines_on : (r w got : ℕ) (x : WholeView V TheCombineSide) → slice_get m.views r ≡ Some x → Combines x.work.stage → next_of L x ≡ Some (Load w) → after_of L x got ≡ work_turned L x (combine_stage_after S r x.work got x.work.stage)
    combines_on r w got x has c next = works_at_rest V TheCombineSide L good further layout laws home m g r x has (rests_on r x has c) (Load w) (λ n e. absurd (cc)) next got

    -- so is its next store
    marks_on : (r w v got : ℕ) (x : WholeView V TheCombineSide) → slice_get m.views r ≡ Some x → Combines x.work.stage → next_of L x ≡ Some (atom.Store w v) → after_of L x got ≡ work_turned L x (combine_stage_after S r x.work got x.work.stage)
    marks_on r w v got x has c next = works_at_rest V TheCombineSide L good further layout laws home m g r x has (rests_on r x has c) (atom.Store w v) (λ n e. absurd (cc)) next got

    many : length m.views ≡ combine_ranks S
    many = sym (length-map m.views (work_side table)) ∙ rule.ranks

    begins_on : (r got : ℕ) (x : WholeView V TheCombineSide) → slice_get m.views r ≡ Some x → x.work.stage ≡ Count → next_of L x ≡ Some (Load count_word) → (after_of L x got).view.work.stage ≡ Sweep 0
    begins_on r got x has e next =
        ap (λ (z : Turned (WholeView V TheCombineSide)). z.view.work.stage) (combines_on r count_word got x has (subst Combines (sym e) tt) next)
        ∙ ap (λ st. (combine_stage_after S r x.work got st).work.stage) e ∙ sweeps_on S (record x.work { count = got }) 0 (let low = slice_get_within m.views r x has in let n = many in omega arith)

    -- where a visit ends the sweep goes on with the next rank, or is over
    visited : (r owner got : ℕ) (x : WholeView V TheCombineSide) → slice_get m.views r ≡ Some x → EndsVisit T owner got x → (after_of L x got).view.work.stage ≡ (sweep_on S x.work (owner + 1)).work.stage
    visited r owner got x has q =
        ⊎_elim
        (λ (p : (x.work.stage ≡ Sweep owner) × (next_of L x ≡ Some (Load (flag_word S owner))) × (got ≢ 1)).
        ap (λ (z : Turned (WholeView V TheCombineSide)). z.view.work.stage) (combines_on r (flag_word S owner) got x has (subst Combines (sym p.0) tt) p.1)
        ∙ ap (λ st. (combine_stage_after S r x.work got st).work.stage) p.0
        ∙ ap (λ b. (cond b (combine_to_stage (with_nothing x.work) (Copy owner 0)) (sweep_on S x.work (owner + 1))).work.stage) (differs got 1 p.2))
        (λ (p : (x.work.stage ≡ Mark owner) × (next_of L x ≡ Some (atom.Store (flag_word S owner) 2))).
        ap (λ (z : Turned (WholeView V TheCombineSide)). z.view.work.stage) (marks_on r (flag_word S owner) 2 got x has (subst Combines (sym p.0) tt) p.1) ∙ ap (λ st. (combine_stage_after S r x.work got st).work.stage) p.0)
        q

    goes_on : (r owner got : ℕ) (x : WholeView V TheCombineSide) → slice_get m.views r ≡ Some x → EndsVisit T owner got x → owner + 1 < length m.views → (after_of L x got).view.work.stage ≡ Sweep (owner + 1)
    goes_on r owner got x has q low = visited r owner got x has q ∙ sweeps_on S x.work (owner + 1) (subst (λ n. owner + 1 < n) many low)

    covers_on : (r owner got : ℕ) (x : WholeView V TheCombineSide) → slice_get m.views r ≡ Some x → EndsVisit T owner got x → (after_of L x got).view.work.stage ≡ Collect 0 → owner + 1 ≡ length m.views
    covers_on r owner got x has q over = sweep_over S x.work (owner + 1) (sym (visited r owner got x has q) ∙ over) ∙ sym many

    nothing_on : (r : ℕ) (x : WholeView V TheCombineSide) → slice_get m.views r ≡ Some x → (post_of S m.held.words r).flag ≡ 0 → early S m.held.words r x.work ≡ []
    nothing_on r x has zero =
        let s = side r x has in
        let y = seat_of S node m.held.words s.laid sides s.is_good r (work_side table x) s.there in
        ⊎_elim
        (λ (n : HasNone S m.held.words r x.work y.0). n.none)
        (λ (o : HasOne S m.held.words r x.work y.0).
        absurd (no_more_entries x.work.kept o.entry (sym (none_early S (post_of S m.held.words r) r (work_side table x) y.0 x.work.stage (s.is_good.own r (work_side table x) y.0 s.there y.1) zero) ∙ o.has)))
        (shown S m.held.words sides s.is_good r (work_side table x) y.0 y.1 s.there)

    -- the entry of a get or hold that is being answered stands at the count
    ends_now : (k : ℕ) (call : Call) (number : ℕ) (entry : Entry) → IsToEnd S m.held.words rule.seats call number entry k → entry.at ≡ slice_index m.held.words count_word
    ends_now k call number entry q = by_stage q.side.work.stage refl where
      turn : BlockStage → WorkTurned
      turn st = block_after S.site.geom S.site.shard k q.side.work (slice_index m.held.words q.loads) st

      by_stage : (st : BlockStage) → q.side.work.stage ≡ st → entry.at ≡ slice_index m.held.words count_word
      by_stage block.Rest e = let none : None ≡ Some (Load q.loads) = ap (block_atom S.site.geom q.side.work) (sym e) ∙ q.atom in absurd (cc)
      by_stage block.Begin e =
          let is : Some (Load count_word) ≡ Some (Load q.loads) = ap (block_atom S.site.geom q.side.work) (sym e) ∙ q.atom in
          let word : q.loads ≡ count_word = (cc) in
          let ends : turn block.Begin ≡ at_rest q.last = ap turn (sym e) ∙ q.ends in
          read_at S.site.geom S.site.shard k (slice_index m.held.words q.loads) (left_of q.side.work) q.side.work entry [] (ap (λ (z : WorkTurned). z.over) ends) (ap (λ (z : WorkTurned). z.work.entries) ends ∙ q.entries)
          ∙ ap (slice_index m.held.words) word
      by_stage (block.Read count word) e =
          let f : SeatReading S.site k rule.work.journal rule.work.before q.side count word = subst (BlockFits S.site (front_of S m.held.words) rule.work.journal rule.work.before k q.side) e (rule.work.fits k q.side q.seat) in
          let w : TheWork = with_seen q.side.work (q.side.work.seen.pairs ++ (word, slice_index m.held.words q.loads) ∷ []) in
          let ends : turn (block.Read count word) ≡ at_rest q.last = ap turn (sym e) ∙ q.ends in
          read_at S.site.geom S.site.shard k count (left_of w) w entry [] (ap (λ (z : WorkTurned). z.over) ends) (ap (λ (z : WorkTurned). z.work.entries) ends ∙ q.entries)
          ∙ f.found ∙ sym rule.work.count ∙ front_get S m.held.words count_word (omega arith)
      by_stage (block.Journal made) e = let is = ap (block_atom S.site.geom q.side.work) (sym e) ∙ q.atom in absurd (cc)
      by_stage (block.Volume made) e = stores (slice_get q.side.work.writes made) (ap (block_atom S.site.geom q.side.work) (sym e) ∙ q.atom) where
        stores : (o : Option Write) → Some (write_atom (q.side.work.at + length q.side.work.entries) o) ≡ Some (Load q.loads) → entry.at ≡ slice_index m.held.words count_word
        stores (Some w) is = absurd (cc)
        stores None is = absurd (cc)

    answers_now : (r k made : ℕ) (x : WholeView V TheCombineSide) → slice_get m.views r ≡ Some x → found x.work.stage ≡ Some k → is_update x.work.posted ≡ false → IsAnswering S m.held.words rule.seats x.work.posted x.work.posted_number x.work.entry k made →
        x.work.entry.at ≡ slice_index m.held.words count_word
    answers_now r k made x has at read a =
        ⊎_elim
        (λ (l : IsLeft rule.seats x.work.entry k).
        let s = side r x has in
        let one : (post_of S m.held.words k).flag ≡ 1 = found_flag S node m.held.words s.laid sides rule r (work_side table x) s.there k at in
        let u = side_of S node m.held.words s.laid sides rule k l.side l.seat in
        let p = posted_at S (post_of S m.held.words k) k u.0 l.side u.0.work.stage (rule.own k u.0 l.side u.1 l.seat) one in
        let c : IsCounted (post_of S m.held.words k) (opened_of u.0.work) l.side = counted_as S (post_of S m.held.words k) k (opened_of u.0.work) l.side l.leaves p in
        let same : c.entry ∷ [] ≡ x.work.entry ∷ [] = sym c.entries ∙ l.entries in
        let entry : c.entry ≡ x.work.entry = (cc) in
        let calls : x.work.posted ≡ u.0.work.call = sym (ap (λ (e : Entry). e.call) a.entry_is) ∙ ap (λ (e : Entry). e.call) (sym entry) ∙ c.same_call in
        let update : is_update x.work.posted ≡ true = ap is_update calls ∙ c.update in
        absurd (cc))
        (λ (q : IsToEnd S m.held.words rule.seats x.work.posted x.work.posted_number x.work.entry k). ends_now k x.work.posted x.work.posted_number x.work.entry q)
        a.end

    now_on : (r owner : ℕ) (x : WholeView V TheCombineSide) → slice_get m.views r ≡ Some x → answers x.work.stage ≡ Some owner → is_update x.work.posted ≡ false → x.work.entry.at ≡ slice_index m.held.words count_word
    now_on r owner x has e read = by_stage x.work.stage refl e where
      sweep : (st : CombineStage) → x.work.stage ≡ st → SweepAt S m.held.words rule.seats r x.work st
      sweep st is = subst (SweepAt S m.held.words rule.seats r x.work) is (rule.sweeps r (work_side table x) (side r x has).there)

      by_stage : (st : CombineStage) → x.work.stage ≡ st → answers st ≡ Some owner → x.work.entry.at ≡ slice_index m.held.words count_word
      by_stage Rest is a = absurd (cc)
      by_stage (Post made) is a = absurd (cc)
      by_stage Raise is a = absurd (cc)
      by_stage Look is a = absurd (cc)
      by_stage Count is a = absurd (cc)
      by_stage (Sweep j) is a = absurd (cc)
      by_stage (Copy j made) is a = absurd (cc)
      by_stage (Read j word) is a = absurd (cc)
      by_stage (Journal j made) is a = absurd (cc)
      by_stage (Volume j made) is a = absurd (cc)
      by_stage (Answer j made) is a = answers_now r j made x has (ap found is) read (sweep (Answer j made) is).2
      by_stage (Mark j) is a = answers_now r j 3 x has (ap found is) read (sweep (Mark j) is).1
      by_stage (Collect made) is a = absurd (cc)
      by_stage Lower is a = absurd (cc)

    finds_on : (r owner : ℕ) (x : WholeView V TheCombineSide) → slice_get m.views r ≡ Some x → x.work.stage ≡ Sweep owner → next_of L x ≡ Some (Load (flag_word S owner)) → found (after_of L x 1).view.work.stage ≡ Some owner
    finds_on r owner x has e next =
        ap (λ (z : Turned (WholeView V TheCombineSide)). found z.view.work.stage) (combines_on r (flag_word S owner) 1 x has (subst Combines (sym e) tt) next) ∙ ap (λ st. found (combine_stage_after S r x.work 1 st).work.stage) e

    -- what a rank that reads for a posted call knows
    reads_for : (r owner word : ℕ) (x : WholeView V TheCombineSide) → ReadsFor T m.held m.views r owner word x → IsReading rule.seats x.work owner word
    reads_for r owner word x q = (subst (SweepAt S m.held.words rule.seats r x.work) q.reads (rule.sweeps r (work_side table x) (side r x q.there).there)).1

    -- and the seat of that call
    abbrev seat_for : (owner word : ℕ) (x : WholeView V TheCombineSide) → IsReading rule.seats x.work owner word → Seat
    seat_for owner word x f = reading x.work (block.Read x.work.count word) f.at f.entries f.t

    whose_on : (r owner word : ℕ) (x y : WholeView V TheCombineSide) → ReadsFor T m.held m.views r owner word x → slice_get m.views owner ≡ Some y → x.work.posted ≡ y.work.call
    whose_on r owner word x y q has =
        let f = reads_for r owner word x q in
        let seat : Seat = seat_for owner word x f in
        let own : OwnAt S (post_of S m.held.words owner) owner (work_side table y) seat y.work.stage = rule.own owner (work_side table y) seat (side owner y has).there f.seat in
        let same : x.work.posted ∷ [] ≡ y.work.call ∷ [] = (handed_at S (post_of S m.held.words owner) owner (work_side table y) seat y.work.stage own refl).0 in
        cc

    fresh_on : (r owner got : ℕ) (x : WholeView V TheCombineSide) → slice_get m.views r ≡ Some x → x.work.stage ≡ Copy owner 4 → next_of L x ≡ Some (Load (post_word S owner 5)) → (after_of L x got).view.work.seen.pairs ≡ []
    fresh_on r owner got x has e next =
        let w : TheCombineSide = with_posted S (with_copied x.work got) in
        ap (λ (z : Turned (WholeView V TheCombineSide)). z.view.work.seen.pairs) (combines_on r (post_word S owner 5) got x has (subst Combines (sym e) tt) next)
        ∙ ap (λ st. (combine_stage_after S r x.work got st).work.seen.pairs) e
        ∙ ap (λ (z : SeenWords). z.pairs) (reads_keep S w owner (next_word S.site.geom w.posted w.seen.pairs))

    more_on : (r owner word got : ℕ) (x : WholeView V TheCombineSide) → ReadsFor T m.held m.views r owner word x → next_of L x ≡ Some (Load (volume_base + word)) → (after_of L x got).view.work.seen.pairs ≡ x.work.seen.pairs ++ (word, got) ∷ []
    more_on r owner word got x q next =
        let w : TheCombineSide = combine_with_word x.work word got in
        ap (λ (z : Turned (WholeView V TheCombineSide)). z.view.work.seen.pairs) (combines_on r (volume_base + word) got x q.there (subst Combines (sym q.reads) tt) next)
        ∙ ap (λ st. (combine_stage_after S r x.work got st).work.seen.pairs) q.reads
        ∙ ap (λ (z : SeenWords). z.pairs) (reads_keep S w owner (next_word S.site.geom w.posted w.seen.pairs))

    few_on : (r owner word : ℕ) (x : WholeView V TheCombineSide) → ReadsFor T m.held m.views r owner word x → length x.work.seen.pairs < most_reads S.site.geom x.work.posted
    few_on r owner word x q =
        let f = reads_for r owner word x q in
        few_loads S.site (front_of S m.held.words) rule.seats rule.work owner (seat_for owner word x f) f.seat x.work.posted x.work.count word refl refl

    -- the post words lie behind the volume
    posts_behind : (i word : ℕ) → word < volume_words S.site.geom → S.behind + i ≡ volume_base + word → ⊥
    posts_behind i word low same =
        let there : base ≡ lock_base S.site = g.rule.base_is in
        let behind : S.behind ≡ base + table.size = g.rule.behind_is in omega arith

    -- whoever loads a word of the volume reads it for a posted call: neither words of the lock nor post words lie there, and no other stage
    -- loads one
    reads_there : (rank : ℕ) (w : TheCombineSide) (word : ℕ) (st : CombineStage) → w.stage ≡ st → word < volume_words S.site.geom → combine_stage_atom S rank w st ≡ Some (Load (volume_base + word)) → (owner : ℕ) × (w.stage ≡ Read owner word)
    reads_there rank w word Rest e low is = absurd (cc)
    reads_there rank w word (Post made) e low is = absurd (cc)
    reads_there rank w word Raise e low is = absurd (cc)
    reads_there rank w word Look e low is = let same : flag_word S rank ≡ volume_base + word = (cc) in absurd (posts_behind (9 * rank + 0) word low same)
    reads_there rank w word Count e low is = let same : count_word ≡ volume_base + word = (cc) in absurd (omega arith)
    reads_there rank w word (Sweep owner) e low is = let same : flag_word S owner ≡ volume_base + word = (cc) in absurd (posts_behind (9 * owner + 0) word low same)
    reads_there rank w word (Copy owner made) e low is = let same : post_word S owner (1 + made) ≡ volume_base + word = (cc) in absurd (posts_behind (9 * owner + (1 + made)) word low same)
    reads_there rank w word (Read owner there) e low is = let same : volume_base + there ≡ volume_base + word = (cc) in (owner, e ∙ ap (Read owner) (omega arith))
    reads_there rank w word (Journal owner made) e low is = absurd (cc)
    reads_there rank w word (Volume owner made) e low is = stores (slice_get w.writes made) is where
      stores : (o : Option Write) → Some (write_atom (w.count + 1) o) ≡ Some (Load (volume_base + word)) → (owner : ℕ) × (w.stage ≡ Read owner word)
      stores (Some v) q = absurd (cc)
      stores None q = absurd (cc)
    reads_there rank w word (Answer owner made) e low is = absurd (cc)
    reads_there rank w word (Mark owner) e low is = absurd (cc)
    reads_there rank w word (Collect made) e low is = let same : post_word S rank (6 + made) ≡ volume_base + word = (cc) in absurd (posts_behind (9 * rank + (6 + made)) word low same)
    reads_there rank w word Lower e low is = absurd (cc)

    loads_so : (r word : ℕ) (x : WholeView V TheCombineSide) → slice_get m.views r ≡ Some x → next_of L x ≡ Some (Load (volume_base + word)) → word < volume_words S.site.geom → (owner : ℕ) × ReadsFor T m.held m.views r owner word x
    loads_so r word x has next low =
        ⊎_elim
        (λ q. absurd (loads_of_lock S.site base g.rule.base_is q.0 word low q.2))
        (λ q. let p = reads_there x.rank x.work word x.work.stage refl low q.2 in (p.0, record { there = has; reads = p.1 }))
        (next_either V TheCombineSide L good further layout laws home x (Load (volume_base + word)) next)

    pub goes_on_found : GoesOnFound T m.held m.views
    goes_on_found r owner x at q next =
        ⊎_elim
        (λ (o : IsOfLock V TheCombineSide L good further layout laws home m g r x q.there at). inr (ap (λ (z : TheCombineSide). found z.stage) o.same ∙ q.found_it, ap (λ (z : TheCombineSide). z.kept) o.same))
        (λ (o : IsOfWork V TheCombineSide L good further layout laws home m g r x q.there at).
        let k : ℕ = do_got at m.held.words m.held.cards in
        ⊎_elim
        (λ (e : x.work.stage ≡ Mark owner). inl (same_Some _ _ (sym o.works.planned ∙ ap (combine_stage_atom S r x.work) e)))
        (λ still. inr (
          ap (λ (z : Turned (WholeView V TheCombineSide)). found z.view.work.stage) o.after ∙ still,
          ap (λ (z : Turned (WholeView V TheCombineSide)). z.view.work.kept) o.after ∙ found_keeps S r x.work k owner x.work.stage q.found_it,
        ))
        (holds_on S r x.work k owner x.work.stage q.found_it))
        (each_atom V TheCombineSide L good further layout laws home m g r x q.there at next)

    -- how often a rank has left, by the entries that it keeps
    pub left_at : (r : ℕ) (x : WholeView V TheCombineSide) → slice_get m.views r ≡ Some x → leaves r m.trace ≡ count_by (counts L) x.work.kept.items
    left_at r x has = ap (leaves r) (sym g.same) ∙ g.rule.left_as r x has

    pub keeps_combining : KeepsCombining T m.held m.views
    keeps_combining =
        record {
          posted = record { says = says_on; moves = moves_on; nothing = nothing_on; once = once_on };
          sweeps = record {
            begins = begins_on;
            goes = goes_on;
            covers = covers_on;
            finds = λ r owner x has e next one. finds_on r owner x has e next;
            writes = λ r owner x q. (
              writes_on x (combiner_writes r x q.there (found_combines x.work.stage owner q.found_it)),
              found_flag S node m.held.words (side r x q.there).laid sides rule r (work_side table x) (side r x q.there).there owner q.found_it,
            );
            now = now_on;
            holds = λ r owner x at q next. ⊎_elim (λ stores. inl stores) (λ still. inr still.0) (goes_on_found r owner x at q next);
          };
          loads = record { whose = whose_on; fresh = fresh_on; one_more = more_on; few = few_on; loads = loads_so };
        }
