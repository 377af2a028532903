-- Each planned act keeps a state of ALock good.
use Rattle.std.specs.Prelude.{◌≡◌, ◌≢◌, ℕ, zero, suc, ◌+◌, ◌-◌, ◌*◌, ◌<◌, ◌==◌, Bool, true, false, List, [], ◌∷◌, ◌++◌, length, if◌then◌else◌, slice_get, slice_index, slice_set, Some, refl}
use Rattle.std.proofs.Common.{sym, ◌∙◌, ap, subst, inr, ⊎_elim, arith, length-set, append_assoc, get_or-set_same, get_or-set_other}
use Rattle.std.proofs.lemmas.List.{set-get_or}
use Rattle.std.proofs.lemmas.Option.{slice_get_within, same_Some}
use Rattle.std.proofs.lemmas.Bool.Decides.{eqb_tells}
use Rattle.rl_word.specs.laws.Places.{same_or_not}
use Rattle.rl_word.specs.Acts.{word_of, written, told}
use Rattle.rl_word.specs.declared.acts.Act.{Act}
use Rattle.rl_word.specs.declared.acts.Act.TheVariants.{Load, Store}
use Rattle.rl_step.specs.declared.events.Event.{Event}
use Rattle.rl_step.specs.declared.events.Event.TheVariants as event
use Rattle.rl_step.specs.Lock.{LockState, acted, Told}
use Rattle.rl_step.specs.Queues.{tenures}
use Rattle.rl_queue.specs.declared.view.Phase.{Phase}
use Rattle.rl_queue.specs.declared.view.Phase.TheVariants.{Idle, Clear, Reset, Swing, Settle, Granted, Above}
use Rattle.rl_queue.specs.Queue.{TheNames, QueueTurn, status_word, plan_at, turn_at}
use Rattle.rl_queue.specs.Lane.{Listed, lane_of, served}
use Rattle.rl_queue.specs.laws.LaneLaws.{in_line}
use Rattle.rl_queue.specs.QueueGood.{QueueGood}
use Rattle.rl_queue.specs.laws.QueueLaws.{still_keeps}
use Rattle.rl_queue.specs.laws.QueueMoves.{act_keeps, settle_keeps, beside_keeps}
use Rattle.rl_queue.specs.laws.QueueActs.{tail_last}
use Rattle.rl_queue.specs.QueuesApart.{Place, AllApart}
use Rattle.rl_queue.specs.laws.QueueFrame.{act_place, elsewhere_keeps, beside_all_keep}
use Rattle.rl_queue.specs.laws.PhaseLaws.{served_busy, served_listed}
use Rattle.rl_queue.specs.laws.QueueTurns.{empty_unlisted}
use Rattle.rl_queue.specs.laws.QueueServed.{served_back, settle_unserved}
use Rattle.rl_alock.specs.declared.view.SettleStage.{SettleStage}
use Rattle.rl_alock.specs.declared.view.SettleStage.TheVariants.{Announce, Tail, Victim}
use Rattle.rl_alock.specs.declared.view.AlockView.{AlockView}
use Rattle.rl_alock.specs.declared.cohort.Cohort.{Cohort}
use Rattle.rl_alock.specs.Alock.{Cohorts, cohort_of, ranks_of, cohort_no, tail_no, names_of, queue_in, alock_plan, at_entry, told_turn, settles_now, alock_table, other, is_in_cohort}
use Rattle.rl_alock.specs.AlockGood.{InCohort, phase_at, entry_at, part, phases_of, Flat, Announced, status_at, Entered, AlockGood}
use Rattle.rl_alock.specs.laws.AlockEntry.{entered_back, announce_keeps, settled_keeps, may_settle}
use Rattle.rl_alock.specs.laws.CohortLaws.{other_differs, other_cohort, both, same_cohort, two_tails}
use Rattle.rl_alock.specs.laws.AlockViews.{phase_get, phase_set_same, phase_set_other, entry_get, entry_set_same, entry_set_other, mine_is, moves_mine, moves_other}
use Rattle.rl_alock.specs.laws.AlockWords.{named_in, victim_apart, cohorts_apart}
use Rattle.rl_alock.specs.laws.AlockTurns.{turn_flat}
use Rattle.rl_alock.specs.laws.AlockActs.{HasLine, Lines, EntryOf, stays_good, quiet, not_announced, of_own, to_own, queue_lines}

module _ (K : Cohorts) where
  -- the entry by another victim that is the same
  same_victim : (cohort : ℕ → Cohort) (ph : ℕ → Phase) (en : ℕ → SettleStage) (status : ℕ → ℕ) (v u : ℕ) → v ≡ u →
      Entered cohort ph en status u → Entered cohort ph en status v
  same_victim cohort ph en status v u e g = subst (Entered cohort ph en status) (sym e) g

  -- An act of a queue doesn't move the entry.
  queue_entry : (s : LockState AlockView) (k : ℕ) (p : Phase) (st : SettleStage) (a : Act) → AlockGood K s →
      slice_get s.views k ≡ Some (at_entry k p st) → plan_at (names_of K (cohort_of K k)) k p ≡ Some a →
      EntryOf K (slice_set s.words (word_of a) (written a (slice_index s.words (word_of a))))
      (slice_set s.views k (at_entry k (turn_at (names_of K (cohort_of K k)) k p (told a (slice_index s.words (word_of a)))).phase
      Announce))
  queue_entry s k p st a g has pl =
      let N : TheNames = names_of K (cohort_of K k) in
      let O : TheNames = names_of K (other (cohort_of K k)) in
      let tu : QueueTurn = turn_at N k p (told a (slice_index s.words (word_of a))) in
      let ws : List ℕ = slice_set s.words (word_of a) (written a (slice_index s.words (word_of a))) in
      let w : AlockView = at_entry k tu.phase Announce in
      let vs : List AlockView = slice_set s.views k (at_entry k tu.phase Announce) in
      let e : ℕ = tenures (queue_in K (cohort_of K k)) s.trace in
      let mv = moves_mine K (cohort_of K k) s.views k (at_entry k p st) w refl has in
      let mine = act_keeps N (InCohort K (cohort_of K k)) s.words (phases_of K (cohort_of K k) s.views) (phases_of K (cohort_of K k) vs)
      (g.line (cohort_of K k)) s.trace e k p a
      (named_in K (cohort_of K k) (length s.words) g.all_words) (g.queue (cohort_of K k)) pl mv in
      let place = act_place N (InCohort K (cohort_of K k)) s.words (phases_of K (cohort_of K k) s.views)
      (g.line (cohort_of K k)) s.trace e k p a (g.queue (cohort_of K k)) mv.was pl in
      let back : (m : ℕ) → served (phase_at vs m) (status_at K ws m) ≡ true → (h : ℕ) × (cohort_of K h ≡ cohort_of K m) ×
      (served (phase_at s.views h) (status_at K s.words h) ≡ true) = λ m h.
      ⊎_elim
      (λ q.
      let h1 = served_back N (InCohort K (cohort_of K k)) s.words (phases_of K (cohort_of K k) s.views) (phases_of K (cohort_of K k) vs)
      (g.line (cohort_of K k)) mine.0 s.trace (s.trace ++ tu.events) e e k p a
      (named_in K (cohort_of K k) (length s.words) g.all_words) (g.queue (cohort_of K k)) pl mv mine.2 mine.1 m (to_own K ws vs (cohort_of K k) m q h) in
      (h1.0, h1.1.0.sits ∙ sym q, of_own K s.words s.views (cohort_of K k) h1.0 h1.1.0.sits h1.1.1))
      (λ q.
      let o : cohort_of K m ≡ other (cohort_of K k) = other_cohort (cohort_of K m) (cohort_of K k) q in
      let ne : m ≢ k = λ x. q (ap (cohort_of K) x) in
      let same_phase : phase_at vs m ≡ phase_at s.views m = phase_set_other s.views k w m ne in
      let i : InCohort K (other (cohort_of K k)) m = (g.queue (other (cohort_of K k))).inv.inside m
      (served_busy _ (status_at K ws m) (subst (λ z. served z (status_at K ws m) ≡ true)
      (same_phase ∙ sym (mine_is K (other (cohort_of K k)) s.views m o)) h)) in
      let same_status : status_at K ws m ≡ status_at K s.words m =
      get_or-set_other s.words (word_of a) (status_word O m) (written a (slice_index s.words (word_of a))) 0
      (λ x. (cohorts_apart K (cohort_of K k)).places (word_of a) place (inr (inr (m, (i, sym x))))) in
      (m, refl, subst (λ z. served z (status_at K s.words m) ≡ true) same_phase (subst (λ z. served (phase_at vs m) z ≡ true) same_status h)))
      (same_cohort (cohort_of K m) (cohort_of K k)) in
      let said : (m : ℕ) → Announced (phase_at vs m) (entry_at vs m) → Announced (phase_at s.views m) (entry_at s.views m) = λ m h.
      ⊎_elim
      (λ q.
      let here : entry_at vs m ≡ Announce = ap (entry_at vs) q ∙ entry_set_same s.views k (at_entry k p st) w has in
      absurd (not_announced (phase_at vs m) (subst (Announced (phase_at vs m)) here h)))
      (λ q. subst (λ z. Announced z (entry_at s.views m)) (phase_set_other s.views k w m q)
      (subst (Announced (phase_at vs m)) (entry_set_other s.views k w m q) h))
      (same_or_not m k) in
      let victim : slice_index ws 2 ≡ slice_index s.words 2 = get_or-set_other s.words (word_of a) 2
      (written a (slice_index s.words (word_of a))) 0 (λ x. victim_apart K (cohort_of K k)
      (subst (Place N (InCohort K (cohort_of K k))) (sym x) place)) in
      same_victim (cohort_of K) (phase_at vs) (entry_at vs) (status_at K ws) (slice_index ws 2) (slice_index s.words 2) victim
      (entered_back (cohort_of K) (phase_at s.views) (phase_at vs) (entry_at s.views) (entry_at vs) (status_at K s.words) (status_at K ws)
      (slice_index s.words 2) g.entered back said)

  -- The view of a rank in the entry changes, and its phase stays Settle: its queue and the other stay as they were, after more events
  -- that are of no queue.
  still_lines : (ws us : List ℕ) (vs : List AlockView) (t : List Event) (k : ℕ) (st st' : SettleStage) (es : List Event) → Lines K ws vs t →
      slice_get vs k ≡ Some (at_entry k Settle st) →
      ((c : Cohort) → (l : List ℕ) → QueueGood (names_of K c) (InCohort K c) ws (phases_of K c vs) l t
      (tenures (queue_in K c) t) → QueueGood (names_of K c) (InCohort K c) us (phases_of K c vs) l t (tenures (queue_in K c) t)) →
      ((c : Cohort) → AllApart (names_of K c).queue (names_of K c).budget es) → ((c : Cohort) → tenures (queue_in K c) es ≡ 0) → Lines K us
      (slice_set vs k (at_entry k Settle st')) (t ++ es)
  still_lines ws us vs t k st st' es q has write apart none c =
      let w : AlockView = at_entry k Settle st' in
      let same_phase : (x : ℕ) → phase_at (slice_set vs k w) x ≡ phase_at vs x = λ x.
      ⊎_elim (λ e. ap (phase_at (slice_set vs k w)) e ∙ phase_set_same vs k (at_entry k Settle st) w has
      ∙ sym (phase_get vs k (at_entry k Settle st) has) ∙ ap (phase_at vs) (sym e)) (λ ne. phase_set_other vs k w x ne)
      (same_or_not x k) in
      let l : List ℕ = (q c).0 in
      let f : ℕ = tenures (queue_in K c) t in
      let a = write c l (q c).1 in
      let b = still_keeps (names_of K c) (InCohort K c) us us (phases_of K c vs) (phases_of K c (slice_set vs k w)) l t f a
      (λ x. ap (part (is_in_cohort K c x)) (same_phase x)) refl (λ x i. refl) (λ x i. refl) in
      quiet K c us (phases_of K c (slice_set vs k w)) t es (none c)
      (l, beside_all_keep (names_of K c) (InCohort K c) us (phases_of K c (slice_set vs k w)) l t es f b (apart c))

  -- a rank that settles has the whole budget, and enters
  settled_lines : (ws : List ℕ) (vs : List AlockView) (t : List Event) (k : ℕ) (st : SettleStage) → Lines K ws vs t →
      slice_get vs k ≡ Some (at_entry k Settle st) →
      Lines K ws (slice_set vs k (settles_now (names_of K (cohort_of K k)) k).view) (t ++ (settles_now (names_of K (cohort_of K k)) k).events)
  settled_lines ws vs t k st q has =
      let N : TheNames = names_of K (cohort_of K k) in
      let O : TheNames = names_of K (other (cohort_of K k)) in
      let w : AlockView = (settles_now (names_of K (cohort_of K k)) k).view in
      let us : List AlockView = slice_set vs k (settles_now (names_of K (cohort_of K k)) k).view in
      let es : List Event = (settles_now (names_of K (cohort_of K k)) k).events in
      let e : ℕ = tenures (queue_in K (cohort_of K k)) t in
      let f : ℕ = tenures (queue_in K (other (cohort_of K k))) t in
      let mine = settle_keeps N (InCohort K (cohort_of K k)) ws (phases_of K (cohort_of K k) vs) (phases_of K (cohort_of K k) us)
      (q (cohort_of K k)).0 t e k (q (cohort_of K k)).1 (moves_mine K (cohort_of K k) vs k (at_entry k Settle st) w refl has) in
      let mine2 = beside_keeps N (InCohort K (cohort_of K k)) ws (phases_of K (cohort_of K k) us) (q (cohort_of K k)).0
      (t ++ event.Settle N.queue k ∷ []) e (event.EnterW k) mine tt in
      let mine3 : QueueGood N (InCohort K (cohort_of K k)) ws (phases_of K (cohort_of K k) us) (q (cohort_of K k)).0 (t ++ es) e =
      subst (λ z. QueueGood N (InCohort K (cohort_of K k)) ws (phases_of K (cohort_of K k) us) (q (cohort_of K k)).0 z e)
      (append_assoc t (event.Settle N.queue k ∷ []) (event.EnterW k ∷ [])) mine2 in
      let theirs = still_keeps O (InCohort K (other (cohort_of K k))) ws ws (phases_of K (other (cohort_of K k)) vs)
      (phases_of K (other (cohort_of K k)) us) (q (other (cohort_of K k))).0 t f (q (other (cohort_of K k))).1
      (λ x. moves_other K (cohort_of K k) vs k w refl x (same_or_not x k)) refl (λ x i. refl) (λ x i. refl) in
      let theirs2 = beside_all_keep O (InCohort K (other (cohort_of K k))) ws (phases_of K (other (cohort_of K k)) us)
      (q (other (cohort_of K k))).0 t es f theirs (two_tails (cohort_of K k), (tt, tt)) in
      both (λ c. HasLine K c ws (phases_of K c us) (t ++ es) (tenures (queue_in K c) (t ++ es))) (cohort_of K k)
      (quiet K (cohort_of K k) ws (phases_of K (cohort_of K k) us) t es refl ((q (cohort_of K k)).0, mine3))
      (quiet K (other (cohort_of K k)) ws (phases_of K (other (cohort_of K k)) us) t es refl ((q (other (cohort_of K k))).0, theirs2))

  -- What the entry says of another rank, and of who stays as it was.
  others_served : (ws : List ℕ) (vs : List AlockView) (k : ℕ) (w : AlockView) (m : ℕ) → m ≢ k →
      served (phase_at (slice_set vs k w) m) (status_at K ws m) ≡ true → served (phase_at vs m) (status_at K ws m) ≡ true
  others_served ws vs k w m ne h = subst (λ z. served z (status_at K ws m) ≡ true) (phase_set_other vs k w m ne) h

  others_said : (vs : List AlockView) (k : ℕ) (w : AlockView) (m : ℕ) → m ≢ k →
      Announced (phase_at (slice_set vs k w) m) (entry_at (slice_set vs k w) m) → Announced (phase_at vs m) (entry_at vs m)
  others_said vs k w m ne h = subst (λ z. Announced z (entry_at vs m)) (phase_set_other vs k w m ne)
      (subst (Announced (phase_at (slice_set vs k w) m)) (entry_set_other vs k w m ne) h)

  -- a rank in the entry, whose phase stays Settle, isn't served
  settle_served : (ws : List ℕ) (vs : List AlockView) (k : ℕ) (st st' : SettleStage) (m : ℕ) →
      slice_get vs k ≡ Some (at_entry k Settle st) → served (phase_at (slice_set vs k (at_entry k Settle st')) m) (status_at K ws m) ≡ true
      → served (phase_at vs m) (status_at K ws m) ≡ true
  settle_served ws vs k st st' m has h =
      let w : AlockView = at_entry k Settle st' in
      ⊎_elim
      (λ q. let x : served (phase_at (slice_set vs k w) m) (status_at K ws m) ≡ false =
      ap (λ z. served z (status_at K ws m)) (ap (phase_at (slice_set vs k w)) q ∙ phase_set_same vs k (at_entry k Settle st) w has) in
      let y : true ≡ false = sym h ∙ x in cc)
      (λ q. others_served ws vs k w m q h) (same_or_not m k)

  -- while a head must settle nobody of its cohort is served
  unserved : (ws : List ℕ) (vs : List AlockView) (t : List Event) (k : ℕ) (st : SettleStage) → Lines K ws vs t →
      slice_get vs k ≡ Some (at_entry k Settle st) → (i : ℕ) → cohort_of K i ≡ cohort_of K k →
      served (phase_at vs i) (status_at K ws i) ≡ true → ⊥
  unserved ws vs t k st q has i e h =
      settle_unserved (names_of K (cohort_of K k)) (InCohort K (cohort_of K k)) ws (phases_of K (cohort_of K k) vs) (q (cohort_of K k)).0 t
      (tenures (queue_in K (cohort_of K k)) t) k i (q (cohort_of K k)).1
      (mine_is K (cohort_of K k) vs k refl ∙ phase_get vs k (at_entry k Settle st) has) (to_own K ws vs (cohort_of K k) i e h)

  -- where a cohort's tail is 0 nobody of it is served or has announced
  pub none_listed : (ws : List ℕ) (vs : List AlockView) (t : List Event) (c : Cohort) → Lines K ws vs t → slice_index ws (tail_no c) ≡ 0 →
      (i : ℕ) → cohort_of K i ≡ c → Listed (phase_at vs i) → ⊥
  none_listed ws vs t c q z i e h =
      empty_unlisted (names_of K c) (InCohort K c) ws (phases_of K c vs) (q c).0 t (tenures (queue_in K c) t) i (q c).1 z
      (subst Listed (sym (mine_is K c vs i e)) h)

  pub announced_listed : (p : Phase) (st : SettleStage) → Announced p st → Listed p
  announced_listed Idle st h = h
  announced_listed Clear st h = h
  announced_listed Reset st h = h
  announced_listed (Swing g) st h = h
  announced_listed _ st h = tt

  -- the entry once rank k has settled, where it may
  settled_entry : (ws : List ℕ) (vs : List AlockView) (k : ℕ) (st : SettleStage) → slice_get vs k ≡ Some (at_entry k Settle st) → EntryOf K ws vs →
      ((i : ℕ) → cohort_of K i ≢ cohort_of K k → served (phase_at vs i) (status_at K ws i) ≡ true → ⊥) ×
      ((i : ℕ) → cohort_of K i ≢ cohort_of K k → Announced (phase_at vs i) (entry_at vs i) → slice_index ws 2 ≡ cohort_no
      (cohort_of K i)) →
      EntryOf K ws (slice_set vs k (settles_now (names_of K (cohort_of K k)) k).view)
  settled_entry ws vs k st has g may =
      let w : AlockView = (settles_now (names_of K (cohort_of K k)) k).view in
      settled_keeps (cohort_of K) (phase_at vs) (phase_at (slice_set vs k w)) (entry_at vs) (entry_at (slice_set vs k w)) (status_at K ws)
      (status_at K ws) (slice_index ws 2) k may.0 may.1
      (λ m ne h. others_served ws vs k w m ne h)
      (λ m h. ⊎_elim (λ q. absurd (subst (λ z. Announced z (entry_at (slice_set vs k w) m))
      (ap (phase_at (slice_set vs k w)) q ∙ phase_set_same vs k (at_entry k Settle st) w has) h)) (λ q. others_said vs k w m q h)
      (same_or_not m k)) g

  -- the entry once rank k looks on
  looking_entry : (ws : List ℕ) (vs : List AlockView) (k : ℕ) (st st' : SettleStage) → slice_get vs k ≡ Some (at_entry k Settle st) →
      Announced Settle st → EntryOf K ws vs → EntryOf K ws (slice_set vs k (at_entry k Settle st'))
  looking_entry ws vs k st st' has an g =
      let w : AlockView = at_entry k Settle st' in
      entered_back (cohort_of K) (phase_at vs) (phase_at (slice_set vs k w)) (entry_at vs) (entry_at (slice_set vs k w)) (status_at K ws)
      (status_at K ws) (slice_index ws 2) g
      (λ m h. (m, refl, settle_served ws vs k st st' m has h))
      (λ m h. ⊎_elim (λ q. subst (λ z. Announced (phase_at vs z) (entry_at vs z)) (sym q)
      (subst (λ z. Announced z (entry_at vs k)) (sym (phase_get vs k (at_entry k Settle st) has))
      (subst (Announced Settle) (sym (entry_get vs k (at_entry k Settle st) has)) an)))
      (λ q. others_said vs k w m q h) (same_or_not m k))

  -- a load writes nothing
  pub load_same : (ws : List ℕ) (w : ℕ) → slice_set ws w (slice_index ws w) ≡ ws
  load_same ws w = set-get_or ws w 0

  -- what holds where two numbers are the same, and where they aren't, holds by their test
  pub by_test : (P : Told AlockView → Type 0) (x y : ℕ) (u v : Told AlockView) → (x ≡ y → P u) → (x ≢ y → P v) → P (if x == y then u else v)
  by_test P x y u v same differ =
      ⊎_elim (λ q. subst (λ z. P (if z then u else v)) (sym q.0) (same q.1)) (λ q. subst (λ z. P (if z then u else v)) (sym q.0) (differ q.1)) (eqb_tells x y)

  -- what an act of rank k leaves of a state, where it writes v to word w and k learns u
  abbrev after : LockState AlockView → ℕ → AlockView → ℕ → ℕ → Act → ℕ → Told AlockView → LockState AlockView
  after s k v w x a got u =
      record {
        words = slice_set s.words w x;
        views = slice_set s.views k u.view;
        modes = s.modes;
        trace = s.trace ++ u.events;
        deeds =
            s.deeds ++ record { rank = k; act = a; got = got; events = u.events } ∷ [];
      }

  -- a load of the entry keeps the state good, where its view and events do
  loaded_good : (s : LockState AlockView) (k : ℕ) (st : SettleStage) (w : ℕ) (a : Act) (got : ℕ) (u : Told AlockView) → AlockGood K s →
      slice_get s.views k ≡ Some (at_entry k Settle st) → u.view.queue.member ≡ k → Flat u.view.queue.phase →
      (ranks_of K ≡ 1 → u.view.entry ≢ Victim) →
      Lines K s.words (slice_set s.views k u.view) (s.trace ++ u.events) → EntryOf K s.words (slice_set s.views k u.view) → AlockGood K
      (after s k (at_entry k Settle st) w (slice_index s.words w) a got u)
  loaded_good s k st w a got u g has name flat late q en =
      stays_good K s (after s k (at_entry k Settle st) w (slice_index s.words w) a got u) k (at_entry k Settle st) u.view g has
      (length-set s.words w (slice_index s.words w)) refl refl name flat late
      (subst (λ z. Lines K z (slice_set s.views k u.view) (s.trace ++ u.events)) (sym (load_same s.words w)) q)
      (subst (λ z. EntryOf K z (slice_set s.views k u.view)) (sym (load_same s.words w)) en)

  pub both_lines : (s : LockState AlockView) → AlockGood K s → Lines K s.words s.views s.trace
  both_lines s g = λ c. (g.line c, g.queue c)

  -- a head that may settle does
  settle_good : (s : LockState AlockView) (k : ℕ) (st : SettleStage) (w : ℕ) (a : Act) (got : ℕ) → AlockGood K s →
      slice_get s.views k ≡ Some (at_entry k Settle st) →
      ((i : ℕ) → cohort_of K i ≢ cohort_of K k → served (phase_at s.views i) (status_at K s.words i) ≡ true → ⊥) ×
      ((i : ℕ) → cohort_of K i ≢ cohort_of K k → Announced (phase_at s.views i) (entry_at s.views i) → slice_index s.words 2 ≡ cohort_no
      (cohort_of K i)) →
      AlockGood K (after s k (at_entry k Settle st) w (slice_index s.words w) a got (settles_now (names_of K (cohort_of K k)) k))
  settle_good s k st w a got g has may =
      loaded_good s k st w a got (settles_now (names_of K (cohort_of K k)) k) g has refl tt (λ one e. cc)
      (settled_lines s.words s.views s.trace k st (both_lines s g) has) (settled_entry s.words s.views k st has g.entered may)

  -- one that may not looks on
  look_good : (s : LockState AlockView) (k : ℕ) (st st' : SettleStage) (w : ℕ) (a : Act) (got : ℕ) (b : Bool) →
      (ranks_of K ≡ 1 → st' ≢ Victim) → AlockGood K s → slice_get s.views k ≡ Some (at_entry k Settle st) → Announced Settle st →
      AlockGood K (after s k (at_entry k Settle st) w (slice_index s.words w) a got (record { view = at_entry k Settle st'; events = []; waits = b }))
  look_good s k st st' w a got b late g has an =
      loaded_good s k st w a got (record { view = at_entry k Settle st'; events = []; waits = b }) g has refl tt late
      (still_lines s.words s.words s.views s.trace k st st' [] (both_lines s g) has (λ c l h. h) (λ c. tt) (λ c. refl))
      (looking_entry s.words s.views k st st' has an g.entered)

  -- the other cohort's queue is empty where rank k is alone
  pub alone_empty : {st : SettleStage} {p : Phase} (s : LockState AlockView) (k : ℕ) → AlockGood K s →
      slice_get s.views k ≡ Some (at_entry k p st) → ranks_of K ≡ 1 → slice_index s.words (tail_no (other (cohort_of K k))) ≡ 0
  alone_empty s k g has one = at (slice_index s.words (tail_no (other (cohort_of K k)))) refl where
    at : (z : ℕ) → slice_index s.words (tail_no (other (cohort_of K k))) ≡ z → slice_index s.words (tail_no (other (cohort_of K k))) ≡ 0
    at zero e = e
    at (suc z) e =
        let x : ℕ = slice_index s.words (tail_no (other (cohort_of K k))) - 1 in
        let h = tail_last (names_of K (other (cohort_of K k))) (InCohort K (other (cohort_of K k))) s.words
        (phases_of K (other (cohort_of K k)) s.views) (g.line (other (cohort_of K k))) s.trace
        (tenures (queue_in K (other (cohort_of K k))) s.trace) (g.queue (other (cohort_of K k))) (omega arith) in
        let i = in_line (names_of K (other (cohort_of K k))).budget (InCohort K (other (cohort_of K k)))
        (lane_of (names_of K (other (cohort_of K k))) s.words (phases_of K (other (cohort_of K k)) s.views))
        (g.line (other (cohort_of K k))) (slice_index s.words (tail_no (other (cohort_of K k))) - 1)
        (g.queue (other (cohort_of K k))).inv h in
        let below : k < length s.views = slice_get_within s.views k _ has in
        let all : length s.views ≡ ranks_of K = g.all_views in
        let there : slice_index s.words (tail_no (other (cohort_of K k))) - 1 < ranks_of K = i.there in
        let same_rank : slice_index s.words (tail_no (other (cohort_of K k))) - 1 ≡ k = omega arith in
        absurd (other_differs (cohort_of K k) (sym (ap (cohort_of K) same_rank) ∙ i.sits))

  -- rank k announces
  announce_good : (s : LockState AlockView) (k : ℕ) → AlockGood K s → slice_get s.views k ≡ Some (at_entry k Settle Announce) →
      AlockGood K (acted (alock_table K) s k (at_entry k Settle Announce) (Store 2 (cohort_no (cohort_of K k))))
  announce_good s k g has =
      let ws : List ℕ = slice_set s.words 2 (cohort_no (cohort_of K k)) in
      let w : AlockView = at_entry k Settle Tail in
      let vs : List AlockView = slice_set s.views k w in
      let q : Lines K s.words s.views s.trace = both_lines s g in
      let there : 2 < length s.words = let e : length s.words ≡ 3 + 2 * ranks_of K = g.all_words in omega arith in
      let same_status : (m : ℕ) → served (phase_at vs m) (status_at K ws m) ≡ true → status_at K ws m ≡ status_at K s.words m = λ m h.
      let same_phase : phase_at vs m ≡ phase_at s.views m = ⊎_elim (λ e. ap (phase_at vs) e
      ∙ phase_set_same s.views k (at_entry k Settle Announce) w has ∙ sym (phase_get s.views k (at_entry k Settle Announce) has)
      ∙ ap (phase_at s.views) (sym e)) (λ ne. phase_set_other s.views k w m ne) (same_or_not m k) in
      let i : InCohort K (cohort_of K m) m = (g.queue (cohort_of K m)).inv.inside m
      (served_busy _ (status_at K ws m) (subst (λ z. served z (status_at K ws m) ≡ true)
      (same_phase ∙ sym (mine_is K (cohort_of K m) s.views m refl)) h)) in
      get_or-set_other s.words 2 (status_word (names_of K (cohort_of K m)) m) (cohort_no (cohort_of K k)) 0
      (λ x. victim_apart K (cohort_of K m) (inr (inr (m, (i, sym x))))) in
      stays_good K s (acted (alock_table K) s k (at_entry k Settle Announce) (Store 2 (cohort_no (cohort_of K k)))) k
      (at_entry k Settle Announce) w g has (length-set s.words 2 _) refl refl refl tt (λ one e. cc)
      (still_lines s.words ws s.views s.trace k Announce Tail (event.Announce (cohort_no (cohort_of K k)) ∷ []) q has
      (λ c l h. elsewhere_keeps (names_of K c) (InCohort K c) s.words (phases_of K c s.views) l s.trace (tenures (queue_in K c) s.trace) 2
      (cohort_no (cohort_of K k)) h (victim_apart K c)) (λ c. (tt, tt)) (λ c. refl))
      (subst (Entered (cohort_of K) (phase_at vs) (entry_at vs) (status_at K ws)) (sym (get_or-set_same s.words 2 (cohort_no (cohort_of K k)) 0 there))
      (announce_keeps (cohort_of K) (phase_at s.views) (phase_at vs) (entry_at s.views) (entry_at vs) (status_at K s.words) (status_at K ws)
      (slice_index s.words 2) k
      (λ i e h. unserved s.words s.views s.trace k Announce q has i e h)
      (λ m h. settle_served s.words s.views k Announce Tail m has (subst (λ z. served (phase_at vs m) z ≡ true) (same_status m h) h)) g.entered))

  -- an act of a queue
  queue_good : (s : LockState AlockView) (k : ℕ) (p : Phase) (st : SettleStage) (a : Act) → AlockGood K s →
      slice_get s.views k ≡ Some (at_entry k p st) → plan_at (names_of K (cohort_of K k)) k p ≡ Some a →
      AlockGood K (after s k (at_entry k p st) (word_of a) (written a (slice_index s.words (word_of a))) a
      (told a (slice_index s.words (word_of a))) (told_turn k
      (turn_at (names_of K (cohort_of K k)) k p (told a (slice_index s.words (word_of a))))))
  queue_good s k p st a g has pl =
      stays_good K s _ k (at_entry k p st)
      (told_turn k (turn_at (names_of K (cohort_of K k)) k p (told a (slice_index s.words (word_of a))))).view g has
      (length-set s.words (word_of a) _) refl refl refl
      (turn_flat (names_of K (cohort_of K k)) k p _ (g.flat k _ has)) (λ one e. cc)
      (queue_lines K s k p st a (turn_at (names_of K (cohort_of K k)) k p (told a (slice_index s.words (word_of a)))) g has pl refl)
      (queue_entry s k p st a g has pl)

  -- Each planned act of rank k keeps the state good.
  pub act_keeps_at : (s : LockState AlockView) (k : ℕ) (p : Phase) (st : SettleStage) (a : Act) → AlockGood K s →
      slice_get s.views k ≡ Some (at_entry k p st) → alock_plan (names_of K (cohort_of K k)) (cohort_of K k) k p st ≡ Some a →
      AlockGood K (acted (alock_table K) s k (at_entry k p st) a)
  act_keeps_at s k Idle st a g has pl = cc
  act_keeps_at s k Settle Announce a g has pl = subst (λ z. AlockGood K (acted (alock_table K) s k (at_entry k Settle Announce) z))
      (same_Some _ _ pl) (announce_good s k g has)
  act_keeps_at s k Settle Tail a g has pl =
      let o : ℕ = tail_no (other (cohort_of K k)) in
      let act : Act = Load o in
      let got : ℕ = slice_index s.words (tail_no (other (cohort_of K k))) in
      let far : (i : ℕ) → cohort_of K i ≢ cohort_of K k → cohort_of K i ≡ other (cohort_of K k) = λ i ne. other_cohort (cohort_of K i) (cohort_of K k) ne in
      subst (λ z. AlockGood K (acted (alock_table K) s k (at_entry k Settle Tail) z)) (same_Some _ _ pl)
      (by_test (λ u. AlockGood K (after s k (at_entry k Settle Tail) o got act got u)) got 0 (settles_now (names_of K (cohort_of K k)) k)
      (record { view = at_entry k Settle Victim; events = []; waits = false })
      (λ z. settle_good s k Tail o act got g has (
        λ i ne h. none_listed s.words s.views s.trace (other (cohort_of K k)) (both_lines s g) z i (far i ne)
            (served_listed (phase_at s.views i) (status_at K s.words i) h),
        λ i ne h. absurd (none_listed s.words s.views s.trace (other (cohort_of K k)) (both_lines s g) z i (far i ne)
            (announced_listed (phase_at s.views i) (entry_at s.views i) h)),
      ))
      (λ z. look_good s k Tail Victim o act got false (λ one e. z (alone_empty s k g has one)) g has tt))
  act_keeps_at s k Settle Victim a g has pl =
      let act : Act = Load 2 in
      let got : ℕ = slice_index s.words 2 in
      let said : Announced (phase_at s.views k) (entry_at s.views k) =
      subst (λ z. Announced z (entry_at s.views k)) (sym (phase_get s.views k (at_entry k Settle Victim) has))
      (subst (Announced Settle) (sym (entry_get s.views k (at_entry k Settle Victim) has)) tt) in
      subst (λ z. AlockGood K (acted (alock_table K) s k (at_entry k Settle Victim) z)) (same_Some _ _ pl)
      (by_test (λ u. AlockGood K (after s k (at_entry k Settle Victim) 2 got act got u)) got (cohort_no (cohort_of K k))
      (record { view = at_entry k Settle Tail; events = []; waits = true }) (settles_now (names_of K (cohort_of K k)) k)
      (λ z. look_good s k Victim Tail 2 act got true (λ one e. cc) g has tt)
      (λ z. settle_good s k Victim 2 act got g has (may_settle (cohort_of K) (phase_at s.views) (entry_at s.views) (status_at K s.words) got
      k g.entered said z)))
  act_keeps_at s k (Granted left) st a g has pl = cc
  act_keeps_at s k (Above succ) st a g has pl = cc
  act_keeps_at s k p st a g has pl = queue_good s k p st a g has pl
