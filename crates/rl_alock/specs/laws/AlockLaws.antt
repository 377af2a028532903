-- ALock meets the laws of a lock.
use Rattle.std.specs.Prelude.{◌≡◌, ℕ, zero, suc, ◌+◌, ◌-◌, ◌*◌, ◌<◌, ◌==◌, ◌&&◌, Bool, true, false, List, [], ◌∷◌, ◌++◌, length, replicate, slice_get, slice_index, slice_set, Some, refl}
use Rattle.std.proofs.Common.{sym, ◌∙◌, ap, subst, ⊎_elim, arith, length-set}
use Rattle.std.proofs.lemmas.List.{length-replicate}
use Rattle.std.proofs.lemmas.Option.{same_Some, slice_get_within}
use Rattle.rl_word.specs.laws.Places.{same_or_not}
use Rattle.rl_word.specs.Acts.{word_of, told}
use Rattle.rl_word.specs.declared.classes.Mode.{Mode}
use Rattle.rl_word.specs.declared.classes.Mode.TheVariants as mode
use Rattle.rl_word.specs.declared.acts.Act.{Act}
use Rattle.rl_step.specs.declared.events.Event.TheVariants as event
use Rattle.rl_step.specs.declared.events.Standing.TheVariants as standing
use Rattle.rl_step.specs.Lock.{LockState, LockLaws, opening, acted, asked, left as left_state, touched, found, Shift, holds_only, no_more, FindsOld, IsLoad, PlansLoad, IsHolder, Acts}
use Rattle.rl_step.specs.laws.LockLemmas.{length-first_views, first_views_at}
use Rattle.rl_step.specs.Queues.{QueueOf, IsFifo, IsWithin, settled, passed, tenures, count}
use Rattle.rl_step.specs.laws.QueueLemmas.{tenures-append}
use Rattle.rl_queue.specs.declared.view.Phase.{Phase}
use Rattle.rl_queue.specs.declared.view.Phase.TheVariants.{Idle, Clear, Link, Settle, Granted, Look, Hand}
use Rattle.rl_queue.specs.laws.Choices.{choose}
use Rattle.rl_queue.specs.Queue.{queue_next_word, status_word, plan_at, turn_at}
use Rattle.rl_queue.specs.Lane.{Awaits, SuitsAlone, Listed, Busy, Own, served, IsFirst, lane_of}
use Rattle.rl_queue.specs.laws.LaneLaws.{in_line}
use Rattle.rl_queue.specs.laws.LaneMoves.{link_guess}
use Rattle.rl_queue.specs.QueueGood.{QueueGood}
use Rattle.rl_queue.specs.laws.QueueLaws.{still_keeps}
use Rattle.rl_queue.specs.laws.QueueMoves.{join_keeps, leave_keeps, beside_keeps, hand_succ, one_first, queue_fifo, queue_within, queue_counted}
use Rattle.rl_queue.specs.laws.RankWordLaws.{all_zero}
use Rattle.rl_queue.specs.laws.QueueFits.{alone_finds, alone_moves_on, waits_on}
use Rattle.rl_queue.specs.Standings.{standing_of}
use Rattle.rl_queue.specs.laws.StandingLaws.{holder_writes, writer_served, no_reader, writer_first, holder_first, leaving_at, out_idle, suits_at}
use Rattle.rl_queue.specs.laws.Choices.{lt_test}
use Rattle.rl_queue.specs.RankWords.{Seated}
use Rattle.rl_alock.specs.declared.view.SettleStage.{SettleStage}
use Rattle.rl_alock.specs.declared.view.SettleStage.TheVariants.{Announce, Tail, Victim}
use Rattle.rl_alock.specs.declared.view.AlockView.{AlockView}
use Rattle.rl_alock.specs.declared.cohort.Cohort.{Cohort}
use Rattle.rl_alock.specs.declared.cohort.Cohort.TheVariants.{Local, Remote}
use Rattle.rl_alock.specs.Alock.{Cohorts, cohort_of, ranks_of, tail_no, budget_in, names_of, queue_in, cohort_no, entry_act, alock_plan, at_entry, settles_now, alock_learn, alock_table, other, is_in_cohort}
use Rattle.rl_alock.specs.AlockGood.{InCohort, phase_at, entry_at, phases_of, Flat, Announced, status_at, AlockGood}
use Rattle.rl_alock.specs.laws.AlockEntry.{entered_back}
use Rattle.rl_alock.specs.laws.CohortLaws.{other_differs, both, same_cohort, in_own, in_other}
use Rattle.rl_alock.specs.laws.AlockViews.{phase_get, phase_set_same, phase_set_other, entry_set_same, entry_set_other, first_idle, all_idle, mine_is, idle_part, moves_mine, moves_other}
use Rattle.rl_alock.specs.laws.AlockActs.{HasLine, EntryOf, stays_good, quiet}
use Rattle.rl_alock.specs.laws.AlockKeeps.{act_keeps_at}
use Rattle.rl_alock.specs.laws.AlockFits.{LearnFits, MayMake, learn_fits_at, plan_rests, spot_home, lawful_in}

module _ (K : Cohorts) where
  begins_at : AlockGood K (opening (alock_table K) (ranks_of K))
  begins_at =
      let first : (r : ℕ) (v : AlockView) → slice_get (opening (alock_table K) (ranks_of K)).views r ≡ Some v → v ≡ at_entry (0 + r) Idle Announce =
      λ r v h. first_views_at (λ i. at_entry i Idle Announce) 0 (ranks_of K) r v h in
      let idle : (m : ℕ) → phase_at (opening (alock_table K) (ranks_of K)).views m ≡ Idle = λ m. first_idle (ranks_of K) m in
      let idle_in : (c : Cohort) (m : ℕ) → phases_of K c (opening (alock_table K) (ranks_of K)).views m ≡ Idle =
      λ c m. idle_part K c (opening (alock_table K) (ranks_of K)).views m (idle m) in
      record {
        all_words = length-replicate (3 + 2 * ranks_of K) 0;
        all_views = length-first_views (λ i. at_entry i Idle Announce) 0 (ranks_of K);
        all_modes = length-replicate (ranks_of K) mode.Write;
        own = λ r v h. ap (λ z. z.queue.member) (first r v h) ∙ omega arith;
        flat = λ r v h. subst (λ z. Flat z.queue.phase) (sym (first r v h)) tt;
        lonely = λ one r v h e. let a : v.entry ≡ Announce = ap (λ z. z.entry) (first r v h) in let b : Announce ≡ Victim = sym a ∙ e in cc;
        line = λ c. [];
        queue = λ c.
            record {
              inv = record {
                distinct = tt;
                listed = λ m h. subst Listed (idle_in c m) h;
                only = λ m h. absurd h;
                line = all_zero (3 + 2 * ranks_of K) (tail_no c);
                own = λ m. subst (λ z. Own (names_of K c).budget (InCohort K c) z
                    (slice_index (replicate (3 + 2 * ranks_of K) 0) (queue_next_word (names_of K c) m))
                    (slice_index (replicate (3 + 2 * ranks_of K) 0) (status_word (names_of K c) m))) (sym (idle_in c m)) tt;
                inside = λ m b. absurd (subst Busy (idle_in c m) b);
              };
              alone = λ m h. subst SuitsAlone (sym (idle_in c m)) tt;
              awaited = λ m x. absurd (subst Awaits (idle_in c m) x);
              says = record { fifo = refl; tenure = refl; within = λ b e. (tt, omega arith) };
            };
        entered = record {
          named = λ k a. absurd (subst (λ z. Announced z (entry_at (opening (alock_table K) (ranks_of K)).views k)) (idle k) a);
          yields = λ m k ne h a. absurd (subst (λ z. Announced z (entry_at (opening (alock_table K) (ranks_of K)).views k)) (idle k) a);
          one = λ m k ne h i. let no : served Idle (status_at K (replicate (3 + 2 * ranks_of K) 0) m) ≡ true =
              subst (λ z. served z (status_at K (replicate (3 + 2 * ranks_of K) 0) m) ≡ true) (idle m) h in cc;
        };
      }

  pub rank_there : (s : LockState AlockView) (r : ℕ) (v : AlockView) → AlockGood K s → slice_get s.views r ≡ Some v → r < ranks_of K
  rank_there s r v g has = let a : r < length s.views = slice_get_within s.views r v has in let b : length s.views ≡ ranks_of K = g.all_views in omega arith

  -- The entry where rank r's view changes to one that hasn't announced, and that is served only where it was.
  quiet_entry : (s : LockState AlockView) (r : ℕ) (p q : Phase) (st : SettleStage) → AlockGood K s →
      slice_get s.views r ≡ Some (at_entry r p st) → ((x : ℕ) → served q x ≡ true → served p x ≡ true) → (Announced q Announce → ⊥) →
      EntryOf K s.words (slice_set s.views r (at_entry r q Announce))
  quiet_entry s r p q st g has back none =
      let w : AlockView = at_entry r q Announce in
      let vs : List AlockView = slice_set s.views r (at_entry r q Announce) in
      entered_back (cohort_of K) (phase_at s.views) (phase_at vs) (entry_at s.views) (entry_at vs) (status_at K s.words)
      (status_at K s.words) (slice_index s.words 2) g.entered
      (λ m h. ⊎_elim
      (λ e.
      let now : phase_at vs m ≡ q = ap (phase_at vs) e ∙ phase_set_same s.views r (at_entry r p st) w has in
      let was : phase_at s.views m ≡ p = ap (phase_at s.views) e ∙ phase_get s.views r (at_entry r p st) has in (
        m,
        refl,
        subst (λ z. served z (status_at K s.words m) ≡ true) (sym was)
            (back (status_at K s.words m) (subst (λ z. served z (status_at K s.words m) ≡ true) now h)),
      ))
      (λ ne. (m, refl, subst (λ z. served z (status_at K s.words m) ≡ true) (phase_set_other s.views r w m ne) h)) (same_or_not m r))
      (λ m h. ⊎_elim
      (λ e.
      let now : phase_at vs m ≡ q = ap (phase_at vs) e ∙ phase_set_same s.views r (at_entry r p st) w has in
      let en : entry_at vs m ≡ Announce = ap (entry_at vs) e ∙ entry_set_same s.views r (at_entry r p st) w has in
      absurd (none (subst (λ z. Announced z Announce) now (subst (Announced (phase_at vs m)) en h))))
      (λ ne. subst (λ z. Announced z (entry_at s.views m)) (phase_set_other s.views r w m ne)
      (subst (Announced (phase_at vs m)) (entry_set_other s.views r w m ne) h)) (same_or_not m r))

  ask_good : (s : LockState AlockView) (r : ℕ) (p : Phase) (st : SettleStage) (m : Mode) → AlockGood K s →
      slice_get s.views r ≡ Some (at_entry r p st) → p ≡ Idle → AlockGood K (asked (alock_table K) s r (at_entry r p st) m)
  ask_good s r p st m g has0 e =
      let has : slice_get s.views r ≡ Some (at_entry r Idle st) = subst (λ z. slice_get s.views r ≡ Some (at_entry r z st)) e has0 in
      let w : AlockView = at_entry r Clear Announce in
      let vs : List AlockView = slice_set s.views r (at_entry r Clear Announce) in
      let b : Cohort = cohort_of K r in
      let i : InCohort K (cohort_of K r) r = record { there = rank_there s r _ g has; sits = refl } in
      let mine = join_keeps (names_of K (cohort_of K r)) (InCohort K (cohort_of K r)) s.words (phases_of K (cohort_of K r) s.views)
      (phases_of K (cohort_of K r) vs) (g.line (cohort_of K r)) s.trace (tenures (queue_in K (cohort_of K r)) s.trace) r
      (g.queue (cohort_of K r)) i
      (moves_mine K (cohort_of K r) s.views r (at_entry r Idle st) w refl has) in
      let theirs = still_keeps (names_of K (other (cohort_of K r))) (InCohort K (other (cohort_of K r))) s.words s.words
      (phases_of K (other (cohort_of K r)) s.views) (phases_of K (other (cohort_of K r)) vs) (g.line (other (cohort_of K r))) s.trace
      (tenures (queue_in K (other (cohort_of K r))) s.trace) (g.queue (other (cohort_of K r)))
      (λ x. moves_other K (cohort_of K r) s.views r w refl x (same_or_not x r)) refl (λ x i. refl) (λ x i. refl) in
      stays_good K s (asked (alock_table K) s r (at_entry r p st) m) r (at_entry r Idle st) w g has refl refl (length-set s.modes r m) refl tt (λ one x. cc)
      (both (λ c. HasLine K c s.words (phases_of K c vs) s.trace (tenures (queue_in K c) s.trace)) (cohort_of K r)
      (g.line (cohort_of K r), mine) (g.line (other (cohort_of K r)), theirs))
      (quiet_entry s r Idle Clear st g has (λ x h. h) (λ h. h))

  -- a departure ends one tenure of its rank's queue, and none of the other
  ends_own : (c : Cohort) (r : ℕ) → InCohort K c r → tenures (queue_in K c) (event.LeaveW r ∷ []) ≡ 1
  ends_own c r i = ap (λ z. count (z && is_in_cohort K c r) + 0) (lt_test r (ranks_of K) i.there) ∙ ap (λ z. count z + 0) (in_own K c r i.sits)

  ends_other : (c : Cohort) (r : ℕ) → InCohort K c r → tenures (queue_in K (other c)) (event.LeaveW r ∷ []) ≡ 0
  ends_other c r i =
      ap (λ z. count (z && is_in_cohort K (other c) r) + 0) (lt_test r (ranks_of K) i.there)
      ∙ ap (λ z. count z + 0) (in_other K (other c) r (λ q. other_differs c (sym i.sits ∙ q)))

  leave_good : (s : LockState AlockView) (r : ℕ) (p : Phase) (st : SettleStage) (left : ℕ) → AlockGood K s →
      slice_get s.views r ≡ Some (at_entry r (Granted left) st) →
      AlockGood K (left_state (alock_table K) s r (at_entry r (Granted left) st) (event.LeaveW r))
  leave_good s r p st left g has =
      let w : AlockView = at_entry r (Look left false) Announce in
      let vs : List AlockView = slice_set s.views r (at_entry r (Look left false) Announce) in
      let i : InCohort K (cohort_of K r) r = record { there = rank_there s r _ g has; sits = refl } in
      let mine = leave_keeps (names_of K (cohort_of K r)) (InCohort K (cohort_of K r)) s.words (phases_of K (cohort_of K r) s.views)
      (phases_of K (cohort_of K r) vs) (g.line (cohort_of K r)) s.trace (tenures (queue_in K (cohort_of K r)) s.trace) r left false
      (event.LeaveW r) (g.queue (cohort_of K r)) tt
      (moves_mine K (cohort_of K r) s.views r (at_entry r (Granted left) st) w refl has) in
      let theirs = still_keeps (names_of K (other (cohort_of K r))) (InCohort K (other (cohort_of K r))) s.words s.words
      (phases_of K (other (cohort_of K r)) s.views) (phases_of K (other (cohort_of K r)) vs) (g.line (other (cohort_of K r))) s.trace
      (tenures (queue_in K (other (cohort_of K r))) s.trace) (g.queue (other (cohort_of K r)))
      (λ x. moves_other K (cohort_of K r) s.views r w refl x (same_or_not x r)) refl (λ x i. refl) (λ x i. refl) in
      let theirs2 = beside_keeps (names_of K (other (cohort_of K r))) (InCohort K (other (cohort_of K r))) s.words
      (phases_of K (other (cohort_of K r)) vs) (g.line (other (cohort_of K r))) s.trace
      (tenures (queue_in K (other (cohort_of K r))) s.trace) (event.LeaveW r) theirs tt in
      let more : tenures (queue_in K (cohort_of K r)) s.trace + 1 ≡ tenures (queue_in K (cohort_of K r)) (s.trace ++ event.LeaveW r ∷ []) =
      let a = ends_own (cohort_of K r) r i in let z = tenures-append (queue_in K (cohort_of K r)) s.trace (event.LeaveW r ∷ []) in omega arith in
      stays_good K s (left_state (alock_table K) s r (at_entry r (Granted left) st) (event.LeaveW r)) r
      (at_entry r (Granted left) st) w g has refl refl refl refl tt (λ one x. cc)
      (both (λ c. HasLine K c s.words (phases_of K c vs) (s.trace ++ event.LeaveW r ∷ [])
      (tenures (queue_in K c) (s.trace ++ event.LeaveW r ∷ []))) (cohort_of K r) (
        g.line (cohort_of K r),
        subst (λ z. QueueGood (names_of K (cohort_of K r)) (InCohort K (cohort_of K r)) s.words
            (phases_of K (cohort_of K r) vs) (g.line (cohort_of K r)) (s.trace ++ event.LeaveW r ∷ []) z) more mine,
      )
      (quiet K (other (cohort_of K r)) s.words (phases_of K (other (cohort_of K r)) vs) s.trace (event.LeaveW r ∷ [])
      (ends_other (cohort_of K r) r i) (g.line (other (cohort_of K r)), theirs2)))
      (quiet_entry s r (Granted left) (Look left false) st g has (λ x h. refl) (λ h. h))

  leave_at_writer : (s : LockState AlockView) (r : ℕ) (p : Phase) (st : SettleStage) → AlockGood K s →
      slice_get s.views r ≡ Some (at_entry r p st) → standing_of p ≡ standing.Writer →
      AlockGood K (left_state (alock_table K) s r (at_entry r p st) (event.LeaveW r))
  leave_at_writer s r (Granted left) st g has e = leave_good s r (Granted left) st left g has
  leave_at_writer s r _ st g has e = cc

  touch_good : (s : LockState AlockView) (r : ℕ) (w : Bool) → AlockGood K s → AlockGood K (touched s r w)
  touch_good s r w g =
      let q : (c : Cohort) → HasLine K c s.words (phases_of K c s.views) (s.trace ++ event.Touch r w ∷ [])
      (tenures (queue_in K c) (s.trace ++ event.Touch r w ∷ [])) = λ c.
      quiet K c s.words (phases_of K c s.views) s.trace (event.Touch r w ∷ []) refl (
        g.line c,
        beside_keeps (names_of K c) (InCohort K c) s.words (phases_of K c s.views) (g.line c) s.trace
            (tenures (queue_in K c) s.trace) (event.Touch r w) (g.queue c) tt,
      ) in
      record {
        all_words = g.all_words;
        all_views = g.all_views;
        all_modes = g.all_modes;
        own = g.own;
        flat = g.flat;
        lonely = g.lonely;
        line = λ c. (q c).0;
        queue = λ c. (q c).1;
        entered = g.entered;
      }

  -- where there is a writer nobody else holds the lock: one of a cohort has it, and one cohort
  excludes_at : (s : LockState AlockView) (i j : ℕ) (v w : AlockView) → AlockGood K s → slice_get s.views i ≡ Some v →
      slice_get s.views j ≡ Some w → standing_of v.queue.phase ≡ standing.Writer → IsHolder (standing_of w.queue.phase) → i ≡ j
  excludes_at s i j v w g hi hj wv hw =
      let si : served (phase_at s.views i) (status_at K s.words i) ≡ true =
      subst (λ z. served z (status_at K s.words i) ≡ true) (sym (phase_get s.views i v hi)) (writer_served v.queue.phase _ wv) in
      let sj : served (phase_at s.views j) (status_at K s.words j) ≡ true =
      subst (λ z. served z (status_at K s.words j) ≡ true) (sym (phase_get s.views j w hj))
      (writer_served w.queue.phase _ (holder_writes w.queue.phase hw)) in
      ⊎_elim
      (λ e.
      one_first (names_of K (cohort_of K i)) (InCohort K (cohort_of K i)) s.words (phases_of K (cohort_of K i) s.views)
      (g.line (cohort_of K i)) s.trace (tenures (queue_in K (cohort_of K i)) s.trace) i j (g.queue (cohort_of K i))
      (subst (λ z. IsFirst z (status_at K s.words i)) (sym (mine_is K (cohort_of K i) s.views i refl ∙ phase_get s.views i v hi))
      (writer_first v.queue.phase _ wv))
      (subst (λ z. IsFirst z (status_at K s.words j)) (sym (mine_is K (cohort_of K i) s.views j (sym e) ∙ phase_get s.views j w hj))
      (holder_first w.queue.phase _ hw)))
      (λ ne. absurd (g.entered.one i j ne si sj))
      (same_cohort (cohort_of K i) (cohort_of K j))

  hand_in : (s : LockState AlockView) (r : ℕ) (p : Phase) (st : SettleStage) → AlockGood K s →
      slice_get s.views r ≡ Some (at_entry r p st) → (x left : ℕ) → p ≡ Hand x left → InCohort K (cohort_of K r) x
  hand_in s r p st g has x left e =
      hand_succ (names_of K (cohort_of K r)) (InCohort K (cohort_of K r)) s.words (phases_of K (cohort_of K r) s.views)
      (g.line (cohort_of K r)) s.trace (tenures (queue_in K (cohort_of K r)) s.trace) r x left (g.queue (cohort_of K r))
      (mine_is K (cohort_of K r) s.views r refl ∙ phase_get s.views r (at_entry r p st) has ∙ e)

  link_in : (s : LockState AlockView) (r : ℕ) (p : Phase) (st : SettleStage) → AlockGood K s →
      slice_get s.views r ≡ Some (at_entry r p st) → (x : ℕ) → p ≡ Link x → x - 1 < ranks_of K
  link_in s r p st g has x e =
      let N = names_of K (cohort_of K r) in
      let k = link_guess (names_of K (cohort_of K r)).budget (InCohort K (cohort_of K r))
      (lane_of (names_of K (cohort_of K r)) s.words (phases_of K (cohort_of K r) s.views)) (g.line (cohort_of K r)) r x
      (g.queue (cohort_of K r)).inv (mine_is K (cohort_of K r) s.views r refl ∙ phase_get s.views r (at_entry r p st) has ∙ e) in
      (in_line (names_of K (cohort_of K r)).budget (InCohort K (cohort_of K r))
      (lane_of (names_of K (cohort_of K r)) s.words (phases_of K (cohort_of K r) s.views)) (g.line (cohort_of K r)) (x - 1)
      (g.queue (cohort_of K r)).inv k.0).there

  -- which queue a number names
  which : (q : ℕ) (d : QueueOf) → slice_get (queue_in K Local ∷ queue_in K Remote ∷ []) q ≡ Some d → (c : Cohort) × (q ≡ tail_no c) × (d ≡ queue_in K c)
  which zero d h = (Local, refl, sym (same_Some _ _ h))
  which (suc zero) d h = (Remote, refl, sym (same_Some _ _ h))
  which (suc (suc q)) d h = cc

  -- a compare-and-swap of a rank alone finds its old value
  finds_at : (s : LockState AlockView) (r : ℕ) (p : Phase) (st : SettleStage) (a : Act) → ranks_of K ≡ 1 → AlockGood K s →
      slice_get s.views r ≡ Some (at_entry r p st) → plan_at (names_of K (cohort_of K r)) r p ≡ Some a →
      FindsOld a (slice_index s.words (word_of a))
  finds_at s r p st a one g has pl =
      alone_finds (names_of K (cohort_of K r)) (InCohort K (cohort_of K r)) s.words (phases_of K (cohort_of K r) s.views)
      (g.line (cohort_of K r)) s.trace (tenures (queue_in K (cohort_of K r)) s.trace) r p a (g.queue (cohort_of K r))
      (λ x i. let b = rank_there s r _ g has in let c = i.there in omega arith)
      (mine_is K (cohort_of K r) s.views r refl ∙ phase_get s.views r (at_entry r p st) has) pl

  goes_at : (s : LockState AlockView) (r : ℕ) (p : Phase) (st : SettleStage) (got : ℕ) → ranks_of K ≡ 1 → AlockGood K s →
      slice_get s.views r ≡ Some (at_entry r p st) → (turn_at (names_of K (cohort_of K r)) r p got).waits ≡ false
  goes_at s r p st got one g has =
      alone_moves_on (names_of K (cohort_of K r)) (InCohort K (cohort_of K r)) r p got
      (subst SuitsAlone (mine_is K (cohort_of K r) s.views r refl ∙ phase_get s.views r (at_entry r p st) has)
      ((g.queue (cohort_of K r)).alone r (λ x i. let b = rank_there s r _ g has in let c = i.there in omega arith)))

  entry_waits : (s : LockState AlockView) (r : ℕ) (st : SettleStage) (got : ℕ) → ranks_of K ≡ 1 → AlockGood K s →
      slice_get s.views r ≡ Some (at_entry r Settle st) → (alock_learn (names_of K (cohort_of K r)) (cohort_of K r) r Settle st got).waits ≡
      false
  entry_waits s r Announce got one g has = refl
  entry_waits s r Tail got one g has = choose (λ z. z.waits ≡ false) (got == 0) (settles_now (names_of K (cohort_of K r)) r)
      (record { view = at_entry r Settle Victim; events = []; waits = false }) refl refl
  entry_waits s r Victim got one g has = absurd (g.lonely one r _ has refl)

  finds_all : (s : LockState AlockView) (r : ℕ) (p : Phase) (st : SettleStage) (a : Act) → ranks_of K ≡ 1 → AlockGood K s →
      slice_get s.views r ≡ Some (at_entry r p st) → alock_plan (names_of K (cohort_of K r)) (cohort_of K r) r p st ≡ Some a →
      FindsOld a (slice_index s.words (word_of a))
  finds_all s r Settle Announce a one g has pl = subst (λ z. FindsOld z (slice_index s.words (word_of z))) (same_Some _ _ pl) tt
  finds_all s r Settle Tail a one g has pl = subst (λ z. FindsOld z (slice_index s.words (word_of z))) (same_Some _ _ pl) tt
  finds_all s r Settle Victim a one g has pl = subst (λ z. FindsOld z (slice_index s.words (word_of z))) (same_Some _ _ pl) tt
  finds_all s r p st a one g has pl = finds_at s r p st a one g has pl

  goes_all : (s : LockState AlockView) (r : ℕ) (p : Phase) (st : SettleStage) (got : ℕ) → ranks_of K ≡ 1 → AlockGood K s →
      slice_get s.views r ≡ Some (at_entry r p st) → (alock_learn (names_of K (cohort_of K r)) (cohort_of K r) r p st got).waits ≡ false
  goes_all s r Settle st got one g has = entry_waits s r st got one g has
  goes_all s r p st got one g has = goes_at s r p st got one g has

  -- a rank waits on after a load alone, and stands at a load again
  loads_again : (m : ℕ) (p : Phase) (st : SettleStage) → PlansLoad (plan_at (names_of K (cohort_of K m)) m p) →
      PlansLoad (alock_plan (names_of K (cohort_of K m)) (cohort_of K m) m p st)
  loads_again m Settle st h = absurd h
  loads_again m _ st h = h

  turn_again : (m : ℕ) (p : Phase) (a : Act) (got : ℕ) → plan_at (names_of K (cohort_of K m)) m p ≡ Some a →
      (turn_at (names_of K (cohort_of K m)) m p got).waits ≡ true →
      IsLoad a × PlansLoad (alock_plan (names_of K (cohort_of K m)) (cohort_of K m) m (turn_at (names_of K (cohort_of K m)) m p got).phase Announce)
  turn_again m p a got pl e =
      let k = waits_on (names_of K (cohort_of K m)) (InCohort K (cohort_of K m)) m p got e in (
        subst PlansLoad pl k.1,
        subst (λ z. PlansLoad (alock_plan (names_of K (cohort_of K m)) (cohort_of K m) m z Announce)) (sym k.0)
            (loads_again m p Announce k.1),
      )

  -- of the entry's own acts the look at the victim alone may have to be made again, from the other cohort's tail on
  entry_again : (m : ℕ) (st : SettleStage) (a : Act) (got : ℕ) → Some (entry_act (cohort_of K m) st) ≡ Some a →
      (alock_learn (names_of K (cohort_of K m)) (cohort_of K m) m Settle st got).waits ≡ true →
      IsLoad a × PlansLoad ((alock_table K).plan (alock_learn (names_of K (cohort_of K m)) (cohort_of K m) m Settle st got).view)
  entry_again m Announce a got pl e = cc
  entry_again m Tail a got pl e =
      choose (λ z. z.waits ≡ true → IsLoad a × PlansLoad ((alock_table K).plan z.view)) (got == 0)
      (settles_now (names_of K (cohort_of K m)) m) (record { view = at_entry m Settle Victim; events = []; waits = false }) (λ e. cc)
      (λ e. cc) e
  entry_again m Victim a got pl e =
      choose (λ z. z.waits ≡ true → IsLoad a × PlansLoad ((alock_table K).plan z.view)) (got == cohort_no (cohort_of K m))
      (record { view = at_entry m Settle Tail; events = []; waits = true }) (settles_now (names_of K (cohort_of K m)) m)
      (λ e. (subst IsLoad (same_Some _ _ pl) tt, tt)) (λ e. cc) e

  again_all : (m : ℕ) (p : Phase) (st : SettleStage) (a : Act) (got : ℕ) →
      alock_plan (names_of K (cohort_of K m)) (cohort_of K m) m p st ≡ Some a →
      (alock_learn (names_of K (cohort_of K m)) (cohort_of K m) m p st got).waits ≡ true →
      IsLoad a × PlansLoad ((alock_table K).plan (alock_learn (names_of K (cohort_of K m)) (cohort_of K m) m p st got).view)
  again_all m Settle st a got pl e = entry_again m st a got pl e
  again_all m p st a got pl e = turn_again m p a got pl e

  -- all laws of a lock
  pub alock_laws : (nodes : ℕ) → Seated (record { node_of = K.node_of; nodes = nodes }) → K.home < nodes →
      LockLaws (alock_table K) (AlockGood K) no_more (record { node_of = K.node_of; nodes = nodes })
  alock_laws nodes seated homed =
      let at : (s : LockState AlockView) (r : ℕ) (v : AlockView) → AlockGood K s → slice_get s.views r ≡ Some v → slice_get s.views v.queue.member ≡ Some v =
      λ s r v g has. subst (λ z. slice_get s.views z ≡ Some v) (sym (g.own r v has)) has in
      record {
        begins = begins_at;
        sized = λ s g. (g.all_words, g.all_views, g.all_modes);
        few_words = let few = seated.few in omega arith;
        homes = λ w lt. spot_home K nodes w seated homed lt;
        lawful = λ s r v a h.
            subst (λ z. MayMake K nodes seated homed z a) (h.is_good.own r v h.has)
            (lawful_in K nodes seated homed v.queue.member v.queue.phase v.entry a (rank_there s v.queue.member v h.is_good (at s r v h.is_good h.has))
            (link_in s v.queue.member v.queue.phase v.entry h.is_good (at s r v h.is_good h.has))
            (λ x left e. (hand_in s v.queue.member v.queue.phase v.entry h.is_good (at s r v h.is_good h.has) x left e).there) h.planned);
        keeps = λ s r v a h.
            subst (λ z. AlockGood K (acted (alock_table K) s z v a)) (h.is_good.own r v h.has)
            (act_keeps_at K s v.queue.member v.queue.phase v.entry a h.is_good (at s r v h.is_good h.has) h.planned);
        ask_keeps = λ s r v m g has out.
            subst (λ z. AlockGood K (asked (alock_table K) s z v m)) (g.own r v has)
            (ask_good s v.queue.member v.queue.phase v.entry m g (at s r v g has) (out_idle v.queue.phase out));
        leave_keeps_writer = λ s r v g has st.
            subst (λ z. AlockGood K (left_state (alock_table K) s z v (event.LeaveW z))) (g.own r v has)
            (leave_at_writer s v.queue.member v.queue.phase v.entry g (at s r v g has) st);
        leave_keeps_reader = λ s r v g has st. absurd (no_reader v.queue.phase st);
        touch_keeps = λ s r w g. touch_good s r w g;
        excludes = λ s i j v w g hi hj wv hw. excludes_at s i j v w g hi hj wv hw;
        suits = λ s r v m g has asked. suits_at m v.queue.phase;
        first_out = λ r. refl;
        ask_asks = λ v m out. refl;
        leave_leaves = λ v h. leaving_at v.queue.phase h;
        rests = λ s r v g has. plan_rests (names_of K (cohort_of K v.queue.member))
            (cohort_of K v.queue.member) v.queue.member v.queue.phase v.entry (g.flat r v has);
        shifts = λ s r v a h.
            subst (λ z. Shift z (standing_of v.queue.phase) (standing_of
            (alock_learn (names_of K (cohort_of K v.queue.member)) (cohort_of K v.queue.member) v.queue.member v.queue.phase v.entry
            (told a (found s a))).view.queue.phase)
            (holds_only (alock_learn (names_of K (cohort_of K v.queue.member))
            (cohort_of K v.queue.member) v.queue.member v.queue.phase v.entry (told a (found s a))).events)) (h.is_good.own r v h.has)
            (fits s r v a h).shift;
        waits_on_loads = λ s r v a h e. again_all v.queue.member v.queue.phase v.entry a (told a (found s a)) h.planned e;
        orders = λ s r v a h. let ok = fits s r v a h in (ok.order, ok.few);
        names = λ s r v a h. (fits s r v a h).names;
        within = λ s q B d g has eb.
            let o = which q d has in
            let same_budget : Some (budget_in K o.0) ≡ Some B = sym (ap (λ y. y.budget) o.2) ∙ eb in
            subst (λ z. IsWithin s.trace z B) (sym o.1)
            (queue_within (names_of K o.0) (InCohort K o.0) s.words (phases_of K o.0 s.views) (g.line o.0) s.trace
            (tenures (queue_in K o.0) s.trace) B (g.queue o.0) same_budget);
        fifo = λ s q d g has.
            let o = which q d has in
            subst (IsFifo s.trace) (sym o.1) (queue_fifo (names_of K o.0) (InCohort K o.0) s.words (phases_of K o.0 s.views) (g.line o.0)
            s.trace (tenures (queue_in K o.0) s.trace) (g.queue o.0));
        counted = λ s q d g out has.
            let o = which q d has in
            let idle = all_idle s.views (λ r v h. out_idle v.queue.phase (out r v h)) in
            let k = queue_counted (names_of K o.0) (InCohort K o.0) s.words (phases_of K o.0 s.views) (g.line o.0) s.trace
            (tenures (queue_in K o.0) s.trace) (g.queue o.0) (λ m. idle_part K o.0 s.views m (idle m)) in
            subst (λ z. settled z s.trace + passed z s.trace ≡ tenures d s.trace) (sym o.1)
            (subst (λ z. settled (tail_no o.0) s.trace + passed (tail_no o.0) s.trace ≡ tenures z s.trace) (sym o.2) k);
        goes_further = λ s g. tt;
        finds = λ s r v a one h. finds_all s v.queue.member v.queue.phase v.entry a one h.is_good (at s r v h.is_good h.has) h.planned;
        moves_on = λ s r v a one h. goes_all s v.queue.member v.queue.phase v.entry (told a (found s a)) one h.is_good (at s r v h.is_good h.has);
      } where
        fits : (s : LockState AlockView) (r : ℕ) (v : AlockView) (a : Act) → Acts (alock_table K) (AlockGood K) s r v a →
            LearnFits K v.queue.member v.queue.phase (alock_learn (names_of K (cohort_of K v.queue.member)) (cohort_of K v.queue.member)
            v.queue.member v.queue.phase v.entry (told a (found s a)))
        fits s r v a h =
            let has : slice_get s.views v.queue.member ≡ Some v = subst (λ z. slice_get s.views z ≡ Some v) (sym (h.is_good.own r v h.has)) h.has in
            learn_fits_at K v.queue.member v.queue.phase v.entry a (told a (found s a)) h.planned (h.is_good.flat r v h.has)
            (rank_there s v.queue.member v h.is_good has)
            (hand_in s v.queue.member v.queue.phase v.entry h.is_good has)
