-- An act keeps a state of ALock good: an act of a queue, and an act of the entry.
use Rattle.std.specs.Prelude.{◌≡◌, ◌≢◌, ℕ, true, List, ◌++◌, length, slice_get, slice_index, slice_set, Some, refl}
use Rattle.std.proofs.Common.{sym, ◌∙◌, ap, subst, arith, length-set, append_assoc}
use Rattle.rl_word.specs.laws.Places.{same_or_not}
use Rattle.rl_word.specs.Acts.{word_of, written, told}
use Rattle.rl_word.specs.declared.acts.Act.{Act}
use Rattle.rl_step.specs.declared.events.Event.{Event}
use Rattle.rl_step.specs.Lock.{LockState}
use Rattle.rl_step.specs.Queues.{tenures}
use Rattle.rl_step.specs.laws.QueueLemmas.{tenures-append}
use Rattle.rl_queue.specs.declared.view.Phase.{Phase}
use Rattle.rl_queue.specs.declared.view.Phase.TheVariants.{Idle}
use Rattle.rl_queue.specs.Queue.{TheNames, QueueTurn, status_word, plan_at, turn_at}
use Rattle.rl_queue.specs.Lane.{served}
use Rattle.rl_queue.specs.QueueGood.{QueueGood}
use Rattle.rl_queue.specs.laws.QueueLaws.{still_keeps}
use Rattle.rl_queue.specs.laws.QueueMoves.{act_keeps}
use Rattle.rl_queue.specs.QueuesApart.{AllApart}
use Rattle.rl_queue.specs.laws.QueueFrame.{beside_all_keep, other_queue_keeps}
use Rattle.rl_alock.specs.declared.view.SettleStage.{SettleStage}
use Rattle.rl_alock.specs.declared.view.SettleStage.TheVariants.{Announce, Victim}
use Rattle.rl_alock.specs.declared.view.AlockView.{AlockView}
use Rattle.rl_alock.specs.declared.cohort.Cohort.{Cohort}
use Rattle.rl_alock.specs.Alock.{Cohorts, victim_no, cohort_of, ranks_of, names_of, queue_in, at_entry, entry_events, other}
use Rattle.rl_alock.specs.AlockGood.{InCohort, phase_at, entry_at, phases_of, Flat, Announced, status_at, Entered, AlockGood}
use Rattle.rl_alock.specs.laws.CohortLaws.{both}
use Rattle.rl_alock.specs.laws.AlockViews.{phase_get, mine_is, moves_mine, moves_other}
use Rattle.rl_alock.specs.laws.AlockWords.{named_in, cohorts_apart}
use Rattle.rl_alock.specs.laws.AlockTurns.{entry_all}
use Rattle.rl_queue.specs.laws.QueueTurns.{turn_all}
use Rattle.rl_queue.specs.laws.RankViewLaws.{each_set}

-- some line makes a cohort's queue good
abbrev pub HasLine : Cohorts → Cohort → List ℕ → (ℕ → Phase) → List Event → ℕ → Type 0
HasLine K c ws ph t e = (l : List ℕ) × QueueGood (names_of K c) (InCohort K c) ws ph l t e

-- so it is for both
abbrev pub Lines : Cohorts → List ℕ → List AlockView → List Event → Type 0
Lines K ws vs t = (c : Cohort) → HasLine K c ws (phases_of K c vs) t (tenures (queue_in K c) t)

-- the entry of a state
abbrev pub EntryOf : Cohorts → List ℕ → List AlockView → Type 0
EntryOf K ws vs = Entered (cohort_of K) (phase_at vs) (entry_at vs) (status_at K ws) (slice_index ws victim_no)

-- A state stays good where rank r's view changes, both queues stay good with some lines, and the entry holds.
pub stays_good : (K : Cohorts) (s t : LockState AlockView) (r : ℕ) (v w : AlockView) → AlockGood K s → slice_get s.views r ≡ Some v →
    length t.words ≡ length s.words → t.views ≡ slice_set s.views r w → length t.modes ≡ length s.modes →
    w.queue.member ≡ r → Flat w.queue.phase → (ranks_of K ≡ 1 → w.entry ≢ Victim) → Lines K t.words
    (slice_set s.views r w) t.trace → EntryOf K t.words (slice_set s.views r w) → AlockGood K t
stays_good K s t r v w g has ew ev em name flat late q en =
    record {
      all_words = ew ∙ g.all_words;
      all_views = ap length ev ∙ length-set s.views r w ∙ g.all_views;
      all_modes = em ∙ g.all_modes;
      own = each_set (λ i u. u.queue.member ≡ i) s.views t.views r w ev name (λ i u ne h. g.own i u h);
      flat = each_set (λ i u. Flat u.queue.phase) s.views t.views r w ev flat (λ i u ne h. g.flat i u h);
      lonely = λ one. each_set (λ i u. u.entry ≢ Victim) s.views t.views r w ev (late one) (λ i u ne h. g.lonely one i u h);
      line = λ c. (q c).0;
      queue = λ c. subst (λ z. QueueGood (names_of K c) (InCohort K c) t.words (phases_of K c z) (q c).0 t.trace
          (tenures (queue_in K c) t.trace)) (sym ev) (q c).1;
      entered = subst (λ z. EntryOf K t.words z) (sym ev) en;
    }

-- events that end no tenure
pub quiet : (K : Cohorts) (c : Cohort) (ws : List ℕ) (ph : ℕ → Phase) (t es : List Event) → tenures (queue_in K c) es ≡ 0 →
    HasLine K c ws ph (t ++ es) (tenures (queue_in K c) t) → HasLine K c ws ph (t ++ es) (tenures (queue_in K c) (t ++ es))
quiet K c ws ph t es z q =
    let a = tenures-append (queue_in K c) t es in
    let e : tenures (queue_in K c) t ≡ tenures (queue_in K c) (t ++ es) = omega arith in
    subst (HasLine K c ws ph (t ++ es)) e q

-- a rank at the first place of the entry hasn't announced
pub not_announced : (p : Phase) → Announced p Announce → ⊥
not_announced Idle h = h
not_announced _ h = h

module _ (K : Cohorts) where
  pub of_own : (ws : List ℕ) (vs : List AlockView) (c : Cohort) (m : ℕ) → cohort_of K m ≡ c →
      served (phases_of K c vs m) (slice_index ws (status_word (names_of K c) m)) ≡ true → served (phase_at vs m) (status_at K ws m) ≡ true
  of_own ws vs c m e h = subst (λ z. served z (status_at K ws m) ≡ true) (mine_is K c vs m e) h

  pub to_own : (ws : List ℕ) (vs : List AlockView) (c : Cohort) (m : ℕ) → cohort_of K m ≡ c →
      served (phase_at vs m) (status_at K ws m) ≡ true → served (phases_of K c vs m) (slice_index ws (status_word (names_of K c) m)) ≡ true
  to_own ws vs c m e h = subst (λ z. served z (status_at K ws m) ≡ true) (sym (mine_is K c vs m e)) h

  -- An act of a queue. Rank k, of the cohort b, is in the phase p, and tu is its turn.
  pub queue_lines : (s : LockState AlockView) (k : ℕ) (p : Phase) (st : SettleStage) (a : Act) (tu : QueueTurn) → AlockGood K s →
      slice_get s.views k ≡ Some (at_entry k p st) → plan_at (names_of K (cohort_of K k)) k p ≡ Some a →
      tu ≡ turn_at (names_of K (cohort_of K k)) k p (told a (slice_index s.words (word_of a))) →
      Lines K (slice_set s.words (word_of a) (written a (slice_index s.words (word_of a))))
      (slice_set s.views k (at_entry k tu.phase Announce)) (s.trace ++ (tu.events ++ entry_events k tu.phase))
  queue_lines s k p st a tu0 g has pl et =
      subst (λ tu. Lines K (slice_set s.words (word_of a) (written a (slice_index s.words (word_of a))))
      (slice_set s.views k (at_entry k tu.phase Announce)) (s.trace ++ (tu.events ++ entry_events k tu.phase))) (sym et) go where
        go : Lines K (slice_set s.words (word_of a) (written a (slice_index s.words (word_of a))))
            (slice_set s.views k (at_entry k (turn_at (names_of K (cohort_of K k)) k p (told a (slice_index s.words (word_of a)))).phase
            Announce))
            (s.trace ++ ((turn_at (names_of K (cohort_of K k)) k p (told a (slice_index s.words (word_of a)))).events ++ entry_events k
            (turn_at (names_of K (cohort_of K k)) k p (told a (slice_index s.words (word_of a)))).phase))
        go =
            let N : TheNames = names_of K (cohort_of K k) in
            let O : TheNames = names_of K (other (cohort_of K k)) in
            let tu : QueueTurn = turn_at (names_of K (cohort_of K k)) k p (told a (slice_index s.words (word_of a))) in
            let ws : List ℕ = slice_set s.words (word_of a) (written a (slice_index s.words (word_of a))) in
            let w : AlockView = at_entry k tu.phase Announce in
            let vs : List AlockView = slice_set s.views k (at_entry k tu.phase Announce) in
            let e : ℕ = tenures (queue_in K (cohort_of K k)) s.trace in
            let f : ℕ = tenures (queue_in K (other (cohort_of K k))) s.trace in
            let mine = act_keeps N (InCohort K (cohort_of K k)) s.words (phases_of K (cohort_of K k) s.views) (phases_of K (cohort_of K k) vs)
            (g.line (cohort_of K k)) s.trace e k p a
            (named_in K (cohort_of K k) (length s.words) g.all_words) (g.queue (cohort_of K k)) pl
            (moves_mine K (cohort_of K k) s.views k (at_entry k p st) w refl has) in
            let mine2 = beside_all_keep N (InCohort K (cohort_of K k)) ws (phases_of K (cohort_of K k) vs) mine.0 (s.trace ++ tu.events)
            (entry_events k tu.phase) e mine.1 (entry_all (AllApart N.queue N.budget) k tu.phase tt (tt, tt)) in
            let theirs = other_queue_keeps N O (InCohort K (cohort_of K k)) (InCohort K (other (cohort_of K k)))
            (cohorts_apart K (cohort_of K k)) s.words (phases_of K (cohort_of K k) s.views) (phases_of K (other (cohort_of K k)) s.views)
            (g.line (cohort_of K k)) (g.line (other (cohort_of K k))) s.trace e f k p a (g.queue (cohort_of K k))
            (g.queue (other (cohort_of K k))) (mine_is K (cohort_of K k) s.views k refl ∙ phase_get s.views k (at_entry k p st) has) pl in
            let theirs1 = still_keeps O (InCohort K (other (cohort_of K k))) ws ws (phases_of K (other (cohort_of K k)) s.views)
            (phases_of K (other (cohort_of K k)) vs) (g.line (other (cohort_of K k))) (s.trace ++ tu.events) f theirs
            (λ x. moves_other K (cohort_of K k) s.views k w refl x (same_or_not x k)) refl (λ x i. refl) (λ x i. refl) in
            let theirs2 = beside_all_keep O (InCohort K (other (cohort_of K k))) ws (phases_of K (other (cohort_of K k)) vs)
            (g.line (other (cohort_of K k))) (s.trace ++ tu.events) (entry_events k tu.phase) f theirs1
            (entry_all (AllApart O.queue O.budget) k tu.phase tt (tt, tt)) in
            let none : (c : Cohort) → tenures (queue_in K c) (tu.events ++ entry_events k tu.phase) ≡ 0 = λ c.
            let x : tenures (queue_in K c) tu.events ≡ 0 = turn_all (λ z. tenures (queue_in K c) z ≡ 0) N k p
            (told a (slice_index s.words (word_of a))) refl refl (λ i. refl) in
            let y : tenures (queue_in K c) (entry_events k tu.phase) ≡ 0 = entry_all (λ z. tenures (queue_in K c) z ≡ 0) k tu.phase refl refl in
            let z = tenures-append (queue_in K c) tu.events (entry_events k tu.phase) in omega arith in
            let line : (l : List ℕ) (c : Cohort) → QueueGood (names_of K c) (InCohort K c) ws (phases_of K c vs) l
            ((s.trace ++ tu.events) ++ entry_events k tu.phase) (tenures (queue_in K c) s.trace) →
            HasLine K c ws (phases_of K c vs) (s.trace ++ (tu.events ++ entry_events k tu.phase))
            (tenures (queue_in K c) (s.trace ++ (tu.events ++ entry_events k tu.phase))) = λ l c h.
            quiet K c ws (phases_of K c vs) s.trace (tu.events ++ entry_events k tu.phase) (none c) (
              l,
              subst (λ z. QueueGood (names_of K c) (InCohort K c) ws (phases_of K c vs) l z (tenures (queue_in K c) s.trace))
                  (append_assoc s.trace tu.events (entry_events k tu.phase)) h,
            ) in
            both (λ c. HasLine K c ws (phases_of K c vs) (s.trace ++ (tu.events ++ entry_events k tu.phase))
            (tenures (queue_in K c) (s.trace ++ (tu.events ++ entry_events k tu.phase))))
            (cohort_of K k) (line mine.0 (cohort_of K k) mine2) (line (g.line (other (cohort_of K k))) (other (cohort_of K k)) theirs2)
