-- Under the rule of optimistic readers over any lock gets hold nothing, and are answered as the version says.
use Rattle.std.proofs.Common.{◌≡◌, ◌≢◌, ℕ, ◌%◌, ◌==◌, Bool, true, false, ◌&&◌, List, [], ◌∷◌, ◌++◌, map, slice_get, slice_index, Option, Some, None, refl, sym, ap, ◌∙◌, subst, ⊎_elim, arith}
use Rattle.std.proofs.lemmas.Option.{same_Some}
use Rattle.rl_word.specs.laws.Places.{get_map, get_map_back}
use Rattle.rl_word.specs.Acts.{Layout}
use Rattle.rl_word.specs.declared.acts.Atom.{Atom}
use Rattle.rl_word.specs.declared.acts.Atom.TheVariants.{Load}
use Rattle.rl_model.specs.declared.call.Call.TheVariants.{Get}
use Rattle.rl_model.specs.declared.entry.Entry.{Entry}
use Rattle.rl_model.specs.Asked.{asks_update}
use Rattle.rl_step.specs.declared.events.Event.{Event}
use Rattle.rl_step.specs.declared.events.Standing.TheVariants.{Out}
use Rattle.rl_step.specs.Core.{Turned}
use Rattle.rl_step.specs.Do.{do_words, do_got}
use Rattle.rl_step.specs.Lock.{LockTable, LockState, Deed}
use Rattle.rl_volume.specs.Seen.{next_word}
use Rattle.rl_work.specs.declared.follow.Follow.{Follow}
use Rattle.rl_work.specs.declared.follow.Follow.TheVariants.{On, Ask, Over}
use Rattle.rl_work.specs.declared.stage.Stage.{Stage as BlockStage}
use Rattle.rl_work.specs.declared.stage.Stage.TheVariants as block
use Rattle.rl_work.specs.Locked.{first_reads}
use Rattle.rl_site.specs.Site.{Site, WaySite}
use Rattle.rl_work.specs.Unlocked.{wanted, wanted_by, with_word}
use Rattle.rl_work.specs.Work.{TheWork, has_work, stores, seen_on}
use Rattle.rl_work.specs.WorkGood.{WorkSide, FitsAt}
use Rattle.rl_work.specs.Ways.{Worked}
use Rattle.rl_core.specs.ShardTables.{ShardTable}
use Rattle.rl_core.specs.Moments.{Moment}
use Rattle.rl_seq.specs.declared.stage.SeqStage.{SeqStage}
use Rattle.rl_seq.specs.declared.stage.SeqStage.TheVariants as stage
use Rattle.rl_seq.specs.Site.{seq_version_word, version_in, front}
use Rattle.rl_seq.specs.SeqWork.{TheSeqWork, seq_table, seq_after, seq_stage_after, seq_stage_atom, seq_touch_at, is_open_at, owes_at, is_over, read_by}
use Rattle.rl_seq.specs.laws.Cases.{checked_by}
use Rattle.rl_seq.specs.laws.Cases.{looked_by}
use Rattle.rl_seq.specs.SeqGood.{SeqRank, SeqGood, IsGetting, is_between, as_locked, locked_at}
use Rattle.rl_seq.specs.Rule.{is_getting, found_count}
use Rattle.rl_seq.specs.laws.CheckLaws.{get_key, get_alone}
use Rattle.rl_seq.specs.laws.OutcomeLaws.{IsReadOff, reads_off}
use Rattle.rl_seq.specs.laws.FitLaws.{fit_at, locked_there}
use Rattle.rl_seq.specs.laws.VersionLaws.{odd_between, writers_odd, never_lowers, no_lower, stands_still, gets_load, reads_few, waits_at, loses_at}
use Rattle.rl_rank.specs.declared.whole.WholeView.{WholeView}
use Rattle.rl_rank.specs.Running.{LockAt, Goods, BothLaws}
use Rattle.rl_rank.specs.Split.{card_in}
use Rattle.rl_rank.specs.Whole.{work_side, followed, left_by, departure_by, touch_by}
use Rattle.rl_rank.specs.WholeShards.{stand, standing_while, whole_shard, WholeGood}
use Rattle.rl_rank.specs.laws.AtWork.{IsOutside, IsOfLock, IsOfWork, outside, each_atom}
use Rattle.rl_locks.specs.Optimistic.{Gets, GetsBy, got_by, KeepsOutside, AnswersGets, KeepsTries, KeepsVersion, KeepsGets}

and_first : (a b : Bool) → (a && b) ≡ true → a ≡ true
and_first true b e = refl
and_first false b e = absurd (cc)

-- whoever is out and done has no holder to leave
out_departs : (rank : ℕ) (f : Follow) → departure_by rank Out f ≡ []
out_departs rank On = refl
out_departs rank (Ask m) = refl
out_departs rank Over = refl

-- of a get at each stage: its block is open, its atom is no touch, and its entry is owed
gets_open : (w : TheWork) (st : SeqStage) → is_getting st ≡ true → (is_open_at w st ≡ true) × (seq_touch_at w st ≡ None) × ((is_open_at w st && owes_at w st) ≡ true)
gets_open w stage.Locked e = absurd (cc)
gets_open w stage.Look e = (refl, refl, refl)
gets_open w (stage.Count v) e = (refl, refl, refl)
gets_open w (stage.Read v count word) e = (refl, refl, refl)
gets_open w (stage.Again v count) e = (refl, refl, refl)
gets_open w stage.Decided e = absurd (cc)
gets_open w (stage.Open v) e = absurd (cc)
gets_open w (stage.Write v) e = absurd (cc)
gets_open w (stage.Close v) e = absurd (cc)

-- whoever stores asks for an update
stores_updates : (site : Site) (words : List ℕ) (journal : List Entry) (before : List ℕ) (r : ℕ) (y : WorkSide) (st : BlockStage) → FitsAt site words journal before r y st → stores st ≡ true → asks_update y.work.calls ≡ true
stores_updates site words journal before r y block.Rest f e = absurd (cc)
stores_updates site words journal before r y block.Begin f e = absurd (cc)
stores_updates site words journal before r y (block.Read count word) f e = absurd (cc)
stores_updates site words journal before r y (block.Journal made) f e = f.0.update
stores_updates site words journal before r y (block.Volume made) f e = f.0.update

-- a read that goes on keeps what was seen
reads_keep : (w : TheWork) (version count : ℕ) (o : Option ℕ) → (read_by w version count o).work.work ≡ w
reads_keep w version count (Some word) = refl
reads_keep w version count None = refl

module _ (V : Type 0) (base : ℕ) (table : LockTable V) (at : WaySite) (node : ℕ) (lock_good : LockState V → Type 0) where
  abbrev pub L : LockAt V TheSeqWork
  L = record { base = base; table = table; work = seq_table at node }

  abbrev pub good : Goods V TheSeqWork
  good = record { lock = lock_good; work = SeqGood at }

  module _ (further : List Event → List Deed → Type 0) (layout : Layout) (laws : BothLaws L good further layout) (home : ℕ)
      (m : Moment (WholeView V TheSeqWork)) (g : WholeGood L good layout m) where
    abbrev T : ShardTable (WholeView V TheSeqWork)
    T = whole_shard L home

    abbrev sides : List SeqRank
    sides = map (work_side table) m.views

    rule : SeqGood at m.held.words sides
    rule = g.rule.work_part

    there : (r : ℕ) (x : WholeView V TheSeqWork) → slice_get m.views r ≡ Some x → slice_get sides r ≡ Some (work_side table x)
    there r x has = get_map (work_side table) m.views r x has

    -- the version is the work's one word
    fits_by : (r : ℕ) (x : WholeView V TheSeqWork) → Gets T m.held m.views r x → (st : SeqStage) → x.work.stage ≡ st → is_getting st ≡ true → IsGetting at.site r (stand table x) x.work.work
    fits_by r x q stage.Locked e b = absurd (cc)
    fits_by r x q stage.Look e b = (fit_at at m.held.words sides rule r (work_side table x) (there r x q.there) stage.Look e).0
    fits_by r x q (stage.Count v) e b = (fit_at at m.held.words sides rule r (work_side table x) (there r x q.there) (stage.Count v) e).0
    fits_by r x q (stage.Read v count word) e b = (fit_at at m.held.words sides rule r (work_side table x) (there r x q.there) (stage.Read v count word) e).getting
    fits_by r x q (stage.Again v count) e b = (fit_at at m.held.words sides rule r (work_side table x) (there r x q.there) (stage.Again v count) e).getting
    fits_by r x q stage.Decided e b = absurd (cc)
    fits_by r x q (stage.Open v) e b = absurd (cc)
    fits_by r x q (stage.Write v) e b = absurd (cc)
    fits_by r x q (stage.Close v) e b = absurd (cc)

    out : (r : ℕ) (x : WholeView V TheSeqWork) → Gets T m.held m.views r x → stand table x ≡ Out
    out r x q = (fits_by r x q x.work.stage refl q.getting).out

    is_outside : (r : ℕ) (x : WholeView V TheSeqWork) (q : Gets T m.held m.views r x) → IsOutside V TheSeqWork L good further layout laws home m g r x q.there
    is_outside r x q = outside V TheSeqWork L good further layout laws home m g r x q.there (out r x q) (gets_open x.work.work x.work.stage q.getting).0

    -- who is at work on a get owes the entry of one
    gets_owe : (r : ℕ) (x : WholeView V TheSeqWork) → Gets T m.held m.views r x → (key : ℕ) × ((T.own x).owes ≡ true) × ((T.own x).calls ≡ Get key ∷ [])
    gets_owe r x q =
        let f : IsGetting at.site r (stand table x) x.work.work = fits_by r x q x.work.stage refl q.getting in
        let alone = get_alone x.work.work.calls f.open_call.is_block f.get in
        let key = get_key alone.0 alone.2 in
        (key.0, (gets_open x.work.work x.work.stage q.getting).2, alone.1 ∙ ap (λ c. c ∷ []) key.1)

    -- and who owes the entry of a get is at work on it
    owes_gets : (r : ℕ) (x : WholeView V TheSeqWork) → slice_get m.views r ≡ Some x → (key : ℕ) → (T.own x).owes ≡ true → x.work.work.calls ≡ Get key ∷ [] → is_getting x.work.stage ≡ true
    owes_gets r x has key owes calls = by_stage x.work.stage refl owes where
      never : (st : SeqStage) → x.work.stage ≡ st → locked_at (stand table x) x.work.work st ≡ record { standing = stand table x; work = x.work.work } → stores x.work.work.stage ≡ true → ⊥
      never st e same writes =
          let y : WorkSide = record { standing = stand table x; work = x.work.work } in
          let here : slice_get (map as_locked sides) r ≡ Some y = locked_there at m.held.words sides rule r (work_side table x) (there r x has) st e ∙ ap Some same in
          let updates : asks_update x.work.work.calls ≡ true =
          stores_updates at.site (front at m.held.words) rule.locked.journal rule.locked.before r y x.work.work.stage (rule.locked.fits r y here) writes in
          cc

      by_stage : (st : SeqStage) → x.work.stage ≡ st → (is_open_at x.work.work st && owes_at x.work.work st) ≡ true → is_getting st ≡ true
      by_stage stage.Locked e o =
          let f = fit_at at m.held.words sides rule r (work_side table x) (there r x has) stage.Locked e in
          let reads : first_reads x.work.work.calls ≡ true = ap first_reads calls in
          let none : first_reads x.work.work.calls ≡ false = f.1 (and_first (has_work x.work.work.stage) (has_work x.work.work.stage) o) in
          absurd (cc)
      by_stage stage.Look e o = refl
      by_stage (stage.Count v) e o = refl
      by_stage (stage.Read v count word) e o = refl
      by_stage (stage.Again v count) e o = refl
      by_stage stage.Decided e o = absurd (never stage.Decided e refl (ap stores (fit_at at m.held.words sides rule r (work_side table x) (there r x has) stage.Decided e)))
      by_stage (stage.Open v) e o = absurd (never (stage.Open v) e refl (ap stores (fit_at at m.held.words sides rule r (work_side table x) (there r x has) (stage.Open v) e).0))
      by_stage (stage.Write v) e o = absurd (never (stage.Write v) e refl (fit_at at m.held.words sides rule r (work_side table x) (there r x has) (stage.Write v) e).0)
      by_stage (stage.Close v) e o = absurd (cc)

    -- what an atom of a get leaves stands out, where it ends the get
    abbrev EndsOut : WholeView V TheSeqWork → Worked TheSeqWork → Type 0
    EndsOut x w = is_getting w.work.stage ≡ false → standing_while (table.standing (followed table x.side.view w.follow)) (is_open_at w.work.work w.work.stage) ≡ Out

    -- a get that found the version again is over, and so out and at rest
    over_out : (r : ℕ) (x : WholeView V TheSeqWork) → Gets T m.held m.views r x → (version count : ℕ) → x.work.stage ≡ stage.Again version count → EndsOut x (is_over (seen_on at.site.geom at.site.shard r x.work.work count).work)
    over_out r x q version count e = λ _.
        let f = fit_at at m.held.words sides rule r (work_side table x) (there r x q.there) (stage.Again version count) e in
        let o : IsGetting at.site r (stand table x) x.work.work = f.getting in
        let alone = get_alone x.work.work.calls o.open_call.is_block o.get in
        let none : next_word at.site.geom alone.0 x.work.work.seen.pairs ≡ None = ap (λ cs. wanted_by at.site.geom cs x.work.work.seen.pairs) (sym alone.1) ∙ f.wants in
        let off : IsReadOff at.site.geom at.site.shard r count x.work.work alone.0 (seen_on at.site.geom at.site.shard r x.work.work count) =
        reads_off at.site.geom at.site.shard r count x.work.work alone.0 alone.1 o.no_reply alone.2 none in
        ap (λ st. standing_while (table.standing (left_by table x.side.view st)) (has_work (seen_on at.site.geom at.site.shard r x.work.work count).work.stage)) (out r x q)
        ∙ ap (λ st. standing_while st (has_work (seen_on at.site.geom at.site.shard r x.work.work count).work.stage)) (out r x q) ∙ ap (λ st. standing_while Out (has_work st)) off.rests

    ends_out : (r got : ℕ) (x : WholeView V TheSeqWork) → Gets T m.held m.views r x → (st : SeqStage) → x.work.stage ≡ st → is_getting st ≡ true → EndsOut x (seq_stage_after at r x.work.work got st)
    ends_out r got x q stage.Locked e b = absurd (cc)
    ends_out r got x q stage.Look e b = elim (got % 2 == 0) as (λ c. EndsOut x (looked_by at x.work.work got c)) [ true ↦ λ done. absurd (cc) | false ↦ λ done. absurd (cc) ]
    ends_out r got x q (stage.Count v) e b = elim (wanted at.site.geom x.work.work) as (λ o. EndsOut x (read_by x.work.work v got o)) [ None ↦ λ done. absurd (cc) | Some word ↦ λ done. absurd (cc) ]
    ends_out r got x q (stage.Read v count word) e b =
        elim (wanted at.site.geom (with_word x.work.work word got)) as (λ o. EndsOut x (read_by (with_word x.work.work word got) v count o)) [ None ↦ λ done. absurd (cc) | Some next ↦ λ done. absurd (cc) ]
    ends_out r got x q (stage.Again v count) e b = elim (got == v) as (λ c. EndsOut x (checked_by at r x.work.work v count got c)) [ true ↦ over_out r x q v count e | false ↦ λ done. absurd (cc) ]
    ends_out r got x q stage.Decided e b = absurd (cc)
    ends_out r got x q (stage.Open v) e b = absurd (cc)
    ends_out r got x q (stage.Write v) e b = absurd (cc)
    ends_out r got x q (stage.Close v) e b = absurd (cc)

    keeps_outside : KeepsOutside T m.held m.views
    keeps_outside =
        record {
          every = λ r x has. (λ b. gets_owe r x (record { there = has; getting = b }), λ q. owes_gets r x has q.0 q.1 q.2);
          asks = λ r x q. ap (λ st. standing_while st (is_open_at x.work.work x.work.stage)) (out r x q) ∙ ap (standing_while Out) (gets_open x.work.work x.work.stage q.getting).0;
          away = λ r x q. ap (card_in table (table.plan x.side.view)) (is_outside r x q).free;
          loads = λ r x q.
              let a = gets_load at m.held.words sides rule r (work_side table x) (there r x q.there) q.getting in
              (a.0, (is_outside r x q).next ∙ a.1, a.2);
          quiet = λ r x by q.
              let k : ℕ = do_got by m.held.words m.held.cards in
              let w : Worked TheSeqWork = seq_after at r x.work k in
              ap (λ (z : Turned (WholeView V TheSeqWork)). z.events) ((is_outside r x q.gets).after k)
              ∙ ap (λ o. touch_by x.rank o ++ departure_by x.rank (stand table x) w.follow) (gets_open x.work.work x.work.stage q.gets.getting).1
              ∙ ap (λ st. departure_by x.rank st w.follow) (out r x q.gets) ∙ out_departs x.rank w.follow;
          ends = λ r x by q done.
              let is = (is_outside r x q.gets).after (do_got by m.held.words m.held.cards) in
              subst (λ (z : Turned (WholeView V TheSeqWork)). T.standing z.view ≡ Out) (sym is)
              (ends_out r (do_got by m.held.words m.held.cards) x q.gets x.work.stage refl q.gets.getting (subst (λ (z : Turned (WholeView V TheSeqWork)). is_getting z.view.work.stage ≡ false) is done));
        }

    -- the answer is that of the work
    answer_is : (r : ℕ) (x : WholeView V TheSeqWork) (by : Atom) → GetsBy T m.held m.views r x by → (got_by T m.held m.views x by).stepped ≡ (seq_stage_after at r x.work.work (do_got by m.held.words m.held.cards) x.work.stage).stepped
    answer_is r x by q = ap (λ (z : Turned (WholeView V TheSeqWork)). z.stepped) ((is_outside r x q.gets).after (do_got by m.held.words m.held.cards))

    -- and a load of the version finds the version
    finds_version : (r : ℕ) (x : WholeView V TheSeqWork) (by : Atom) → GetsBy T m.held m.views r x by → (st : SeqStage) → x.work.stage ≡ st → seq_stage_atom at x.work.work st ≡ Some (Load (seq_version_word at)) → do_got by m.held.words m.held.cards ≡ version_in at m.held.words
    finds_version r x by q st e loads =
        let same : by ≡ Load (seq_version_word at) = same_Some _ _ (sym q.next ∙ (is_outside r x q.gets).next ∙ ap (seq_stage_atom at x.work.work) e ∙ loads) in
        ap (λ z. do_got z m.held.words m.held.cards) same

    answers_gets : AnswersGets T m.held m.views
    answers_gets =
        record {
          waits = λ r x by word value q.
              let k : ℕ = do_got by m.held.words m.held.cards in
              let w = waits_at at r x.work.work k word value x.work.stage in
              let finds : x.work.stage ≡ stage.Look → k ≡ version_in at m.held.words = λ e. finds_version r x by q stage.Look e refl in (
                λ e. let a = w.0 (sym (answer_is r x by q) ∙ e) in let same = finds a.0 in (a.0, subst (λ n. n % 2 ≢ 0) same a.1, a.2, a.3 ∙ same),
                λ a. let same = finds a.0 in answer_is r x by q ∙ w.1 (a.0, subst (λ n. n % 2 ≢ 0) (sym same) a.1, a.2, a.3 ∙ sym same),
              );
          loses = λ r x by guess seen q.
              let k : ℕ = do_got by m.held.words m.held.cards in
              let w = loses_at at r x.work.work k guess seen x.work.stage in
              let finds : (count : ℕ) → x.work.stage ≡ stage.Again guess count → k ≡ version_in at m.held.words = λ count e. finds_version r x by q (stage.Again guess count) e refl in (
                λ e. let a = w.0 (sym (answer_is r x by q) ∙ e) in let same = finds a.0 a.1 in (a.0, a.1, a.2 ∙ same, subst (λ n. n ≢ guess) same a.3),
                λ a. let same = finds a.0 a.1 in answer_is r x by q ∙ w.1 (a.0, a.1, a.2 ∙ sym same, subst (λ n. n ≢ guess) (sym same) a.3),
              );
        }

    -- a get that hasn't found the count has loaded nothing
    nothing_loaded : (r : ℕ) (x : WholeView V TheSeqWork) → Gets T m.held m.views r x → found_count x.work.stage ≡ None → x.work.work.seen.pairs ≡ []
    nothing_loaded r x q none = by_stage x.work.stage refl q.getting none where
      by_stage : (st : SeqStage) → x.work.stage ≡ st → is_getting st ≡ true → found_count st ≡ None → x.work.work.seen.pairs ≡ []
      by_stage stage.Locked e b n = absurd (cc)
      by_stage stage.Look e b n = (fit_at at m.held.words sides rule r (work_side table x) (there r x q.there) stage.Look e).1
      by_stage (stage.Count v) e b n = (fit_at at m.held.words sides rule r (work_side table x) (there r x q.there) (stage.Count v) e).2
      by_stage (stage.Read v count word) e b n = absurd (cc)
      by_stage (stage.Again v count) e b n = absurd (cc)
      by_stage stage.Decided e b n = absurd (cc)
      by_stage (stage.Open v) e b n = absurd (cc)
      by_stage (stage.Write v) e b n = absurd (cc)
      by_stage (stage.Close v) e b n = absurd (cc)

    keeps_tries : KeepsTries T m.held m.views
    keeps_tries =
        record {
          fresh = nothing_loaded;
          one_more = λ r x by version count word q e.
              let k : ℕ = do_got by m.held.words m.held.cards in
              ap (λ (z : Turned (WholeView V TheSeqWork)). z.view.work.work.seen.pairs) ((is_outside r x q.gets).after k)
              ∙ ap (λ st. (seq_stage_after at r x.work.work k st).work.work.seen.pairs) e
              ∙ ap (λ (z : TheWork). z.seen.pairs) (reads_keep (with_word x.work.work word k) version count (wanted at.site.geom (with_word x.work.work word k)));
          few = λ r x q. reads_few at m.held.words sides rule r (work_side table x) (there r x q.there) q.getting;
          found = λ r x version q e. no_lower at m.held.words sides rule r (work_side table x) (there r x q.there) version e;
          same_words = λ r x q e. (stands_still at m.held.words sides rule r (work_side table x) (there r x q.there) e).1;
          same_count = λ r x count q e f. (stands_still at m.held.words sides rule r (work_side table x) (there r x q.there) e).2 count f;
        }

    keeps_version : KeepsVersion T m.held m.views
    keeps_version =
        record {
          even =
              let o = odd_between at m.held.words sides rule in (
                λ e. λ r x has. o.0 e r (work_side table x) (there r x has),
                λ quiet. o.1 (λ r y has. let b = get_map_back (work_side table) m.views r y has in ap (λ (z : SeqRank). is_between z.work.stage) (sym b.2) ∙ quiet r b.0 b.1),
              );
          writes = λ r x has b. ap (λ st. standing_while st (is_open_at x.work.work x.work.stage)) (writers_odd at m.held.words sides rule r (work_side table x) (there r x has) b);
          rises = λ r x by has next.
              ⊎_elim
              (λ (q : IsOfLock V TheSeqWork L good further layout laws home m g r x has by).
              let same : slice_index (do_words by m.held.words) at.behind ≡ version_in at m.held.words = q.words.behind at.behind (omega arith) in
              omega arith)
              (λ (q : IsOfWork V TheSeqWork L good further layout laws home m g r x has by). never_lowers at node m.held.words sides r (work_side table x) by q.works)
              (each_atom V TheSeqWork L good further layout laws home m g r x has by next);
        }

    pub keeps_gets : KeepsGets T m.held m.views
    keeps_gets = record { outside = keeps_outside; answers = answers_gets; tries = keeps_tries; versions = keeps_version }
