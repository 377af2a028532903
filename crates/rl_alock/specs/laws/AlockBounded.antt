-- ALock meets the laws of a lock, and says further that a cohort that has announced is overtaken at most so often.
use Rattle.std.specs.Prelude.{◌≡◌, ◌≢◌, ℕ, ◌+◌, ◌<◌, ◌≤◌, ◌==◌, Bool, true, false, [], ◌∷◌, ◌++◌, slice_get, slice_index, slice_set, Some, None, refl}
use Rattle.std.proofs.Common.{sym, ◌∙◌, ap, subst, inl, inr, arith}
use Rattle.std.proofs.lemmas.List.{append-nil}
use Rattle.std.proofs.lemmas.Option.{same_Some}
use Rattle.rl_word.specs.declared.acts.Act.{Act}
use Rattle.rl_step.specs.declared.events.Event.TheVariants as event
use Rattle.rl_step.specs.declared.events.Standing.TheVariants as standing
use Rattle.rl_step.specs.Lock.{LockState, LockLaws, Told, acted, Acts}
use Rattle.rl_step.specs.Queues.{tenures}
use Rattle.rl_queue.specs.declared.view.Phase.{Phase}
use Rattle.rl_queue.specs.declared.view.Phase.TheVariants.{Idle, Clear, Settle, Granted, Look, Above}
use Rattle.rl_queue.specs.laws.Choices.{other_test}
use Rattle.rl_queue.specs.Queue.{leave_at}
use Rattle.rl_queue.specs.Lane.{IsFirst}
use Rattle.rl_queue.specs.laws.QueueMoves.{one_first}
use Rattle.rl_queue.specs.Standings.{standing_of}
use Rattle.rl_queue.specs.laws.StandingLaws.{out_idle, no_reader}
use Rattle.rl_queue.specs.RankWords.{Seated}
use Rattle.rl_alock.specs.declared.view.SettleStage.{SettleStage}
use Rattle.rl_alock.specs.declared.view.SettleStage.TheVariants.{Announce, Tail, Victim}
use Rattle.rl_alock.specs.declared.view.AlockView.{AlockView}
use Rattle.rl_alock.specs.declared.cohort.Cohort.{Cohort}
use Rattle.rl_alock.specs.Alock.{Cohorts, BoundsOvertaking, cohort_of, cohort_no, tail_no, budget_in, names_of, queue_in, alock_plan, at_entry, settles_now, alock_table, other, is_in_cohort}
use Rattle.rl_alock.specs.AlockGood.{InCohort, phase_at, entry_at, phases_of, Announced, status_at, AlockGood}
use Rattle.rl_alock.specs.laws.CohortLaws.{other_differs, other_cohort}
use Rattle.rl_alock.specs.laws.AlockViews.{phase_get, entry_get, mine_is}
use Rattle.rl_alock.specs.laws.AlockKeeps.{none_listed, announced_listed, both_lines, by_test, load_same}
use Rattle.rl_alock.specs.laws.AlockLaws.{alock_laws}
use Rattle.rl_alock.specs.Overtakes.{pot, Overtaken, pot_in, AlockBounded}
use Rattle.rl_alock.specs.laws.AlockOvertakes.{pot_by, goes_on, plus_zero, queue_overtakes, still_overtakes, settle_overtakes, announce_overtakes}
use Rattle.rl_step.specs.Overtaking.{window_of}
use Rattle.rl_step.specs.laws.OvertakingLaws.{is_overtaken}

module _ (K : Cohorts) where
  -- a head in the entry is the only first of its cohort
  head_alone : (s : LockState AlockView) (k : ℕ) (st : SettleStage) → AlockGood K s → slice_get s.views k ≡ Some (at_entry k Settle st) →
      (m : ℕ) → cohort_of K m ≡ cohort_of K k → IsFirst (phase_at s.views m) (status_at K s.words m) → m ≡ k
  head_alone s k st g has m e f =
      one_first (names_of K (cohort_of K k)) (InCohort K (cohort_of K k)) s.words (phases_of K (cohort_of K k) s.views)
      (g.line (cohort_of K k)) s.trace (tenures (queue_in K (cohort_of K k)) s.trace) m k (g.queue (cohort_of K k))
      (subst (λ z. IsFirst z (status_at K s.words m)) (sym (mine_is K (cohort_of K k) s.views m e)) f)
      (subst (λ z. IsFirst z (status_at K s.words k)) (sym (mine_is K (cohort_of K k) s.views k refl ∙ phase_get s.views k (at_entry k Settle st) has)) tt)

  abbrev After : LockState AlockView → Cohort → Cohort → ℕ → ℕ → ℕ → Told AlockView → Type 0
  After s c o k w x u = Overtaken K c o (slice_set s.words w x) (slice_set s.views k u.view) (s.trace ++ u.events)

  looked : (s : LockState AlockView) (c o : Cohort) (ne : c ≢ o) (k w : ℕ) (st st' : SettleStage) (b : Bool) →
      slice_get s.views k ≡ Some (at_entry k Settle st) → (Announced Settle st → Announced Settle st') →
      ((B x : ℕ) (y : Bool) → pot B y st' Settle x ≤ pot B y st Settle x) →
      Overtaken K c o s.words s.views s.trace → After s c o k w (slice_index s.words w) (record { view = at_entry k Settle st'; events = []; waits = b })
  looked s c o ne k w st st' b has said less ov =
      subst (λ z. Overtaken K c o z (slice_set s.views k (at_entry k Settle st')) (s.trace ++ [])) (sym (load_same K s.words w))
      (still_overtakes K c o ne s.words s.views s.trace [] k (at_entry k Settle st) (at_entry k Settle st') has (λ x. refl) (λ x l. tt) said less ov)

  settled_over : (s : LockState AlockView) (c o : Cohort) (ne : c ≢ o) (k w : ℕ) (st : SettleStage) → AlockGood K s →
      slice_get s.views k ≡ Some (at_entry k Settle st) →
      (cohort_of K k ≡ o → (n : ℕ) → window_of (is_in_cohort K c)
      (cohort_no c) None s.trace ≡ Some n → pot_in K o s.words s.views k ≡ budget_in K o + 1) → Overtaken K c o s.words s.views s.trace
      → After s c o k w (slice_index s.words w) (settles_now (names_of K (cohort_of K k)) k)
  settled_over s c o ne k w st g has may ov =
      subst (λ z. Overtaken K c o z (slice_set s.views k (settles_now (names_of K (cohort_of K k)) k).view)
      (s.trace ++ (settles_now (names_of K (cohort_of K k)) k).events)) (sym (load_same K s.words w))
      (settle_overtakes K c o ne s.words s.views s.trace k st has (head_alone s k st g has) may ov)

  same_pot : (B x : ℕ) (y : Bool) → pot B y Victim Settle x ≤ pot B y Tail Settle x
  same_pot B x true = omega arith
  same_pot B x false = omega arith

  same_pot_back : (B x : ℕ) (y : Bool) → pot B y Tail Settle x ≤ pot B y Victim Settle x
  same_pot_back B x true = omega arith
  same_pot_back B x false = omega arith

  -- each planned act keeps the bound
  act_over : (s : LockState AlockView) (k : ℕ) (p : Phase) (st : SettleStage) (a : Act) (c o : Cohort) → c ≢ o → AlockGood K s →
      slice_get s.views k ≡ Some (at_entry k p st) → alock_plan (names_of K (cohort_of K k)) (cohort_of K k) k p st ≡ Some a →
      Overtaken K c o s.words s.views s.trace →
      Overtaken K c o (acted (alock_table K) s k (at_entry k p st) a).words (acted (alock_table K) s k (at_entry k p st) a).views
      (acted (alock_table K) s k (at_entry k p st) a).trace
  act_over s k Idle st a c o ne g has pl ov = cc
  act_over s k Settle Announce a c o ne g has pl ov =
      subst (λ z. Overtaken K c o (acted (alock_table K) s k (at_entry k Settle Announce) z).words
      (acted (alock_table K) s k (at_entry k Settle Announce) z).views (acted (alock_table K) s k (at_entry k Settle Announce) z).trace)
      (same_Some _ _ pl)
      (announce_overtakes K c o ne s k g has ov)
  act_over s k Settle Tail a c o ne g has pl ov =
      let w : ℕ = tail_no (other (cohort_of K k)) in
      subst (λ z. Overtaken K c o (acted (alock_table K) s k (at_entry k Settle Tail) z).words
      (acted (alock_table K) s k (at_entry k Settle Tail) z).views (acted (alock_table K) s k (at_entry k Settle Tail) z).trace)
      (same_Some _ _ pl)
      (by_test K (After s c o k w (slice_index s.words w)) (slice_index s.words (tail_no (other (cohort_of K k)))) 0
      (settles_now (names_of K (cohort_of K k)) k) (record { view = at_entry k Settle Victim; events = []; waits = false })
      (λ z. settled_over s c o ne k w Tail g has
      (λ e n open_now.
      let h = ov.opener n open_now in
      let far : cohort_of K h.0 ≡ other (cohort_of K k) = other_cohort (cohort_of K h.0) (cohort_of K k) (λ q. ne (sym h.1 ∙ q ∙ e)) in
      absurd (none_listed K s.words s.views s.trace (other (cohort_of K k)) (both_lines K s g) z h.0 far
      (announced_listed K (phase_at s.views h.0) (entry_at s.views h.0) h.2))) ov)
      (λ z. looked s c o ne k w Tail Victim false has (λ x. tt) same_pot ov))
  act_over s k Settle Victim a c o ne g has pl ov =
      subst (λ z. Overtaken K c o (acted (alock_table K) s k (at_entry k Settle Victim) z).words
      (acted (alock_table K) s k (at_entry k Settle Victim) z).views (acted (alock_table K) s k (at_entry k Settle Victim) z).trace)
      (same_Some _ _ pl)
      (by_test K (After s c o k 2 (slice_index s.words 2)) (slice_index s.words 2) (cohort_no (cohort_of K k))
      (record { view = at_entry k Settle Tail; events = []; waits = true }) (settles_now (names_of K (cohort_of K k)) k)
      (λ z. looked s c o ne k 2 Victim Tail true has (λ x. tt) same_pot_back ov)
      (λ z. settled_over s c o ne k 2 Victim g has
      (λ e n open_now.
      let not_mine : (slice_index s.words 2 == cohort_no o) ≡ false = other_test (slice_index s.words 2) (cohort_no o) (λ q. z (q ∙ ap cohort_no (sym e))) in
      pot_by K o s.words s.views k Settle Victim (phase_get s.views k (at_entry k Settle Victim) has)
      (entry_get s.views k (at_entry k Settle Victim) has) ∙ ap (λ y. pot (budget_in K o) y Victim Settle (status_at K s.words k))
      not_mine) ov))
  act_over s k (Granted x) st a c o ne g has pl ov = cc
  act_over s k (Above x) st a c o ne g has pl ov = cc
  act_over s k p st a c o ne g has pl ov = queue_overtakes K c o s k p st a ne g has pl ov

  ask_over : (s : LockState AlockView) (k : ℕ) (p : Phase) (st : SettleStage) (c o : Cohort) (ne : c ≢ o) →
      slice_get s.views k ≡ Some (at_entry k p st) → p ≡ Idle → Overtaken K c o s.words s.views s.trace →
      Overtaken K c o s.words (slice_set s.views k (at_entry k Clear Announce)) s.trace
  ask_over s k p st c o ne has e ov =
      subst (λ z. Overtaken K c o s.words (slice_set s.views k (at_entry k Clear Announce)) z) (append-nil s.trace)
      (still_overtakes K c o ne s.words s.views s.trace [] k (at_entry k Idle st) (at_entry k Clear Announce)
      (subst (λ z. slice_get s.views k ≡ Some (at_entry k z st)) e has) (λ x. refl) (λ x l. tt) (λ x. x) (λ B x y. omega arith) ov)

  leave_over : (s : LockState AlockView) (k : ℕ) (p : Phase) (st : SettleStage) (c o : Cohort) (ne : c ≢ o) →
      slice_get s.views k ≡ Some (at_entry k p st) → standing_of p ≡ standing.Writer → Overtaken K c o s.words s.views s.trace →
      Overtaken K c o s.words (slice_set s.views k (at_entry k (leave_at p false) Announce)) (s.trace ++ event.LeaveW k ∷ [])
  leave_over s k (Granted left) st c o ne has e ov =
      still_overtakes K c o ne s.words s.views s.trace (event.LeaveW k ∷ []) k (at_entry k (Granted left) st)
      (at_entry k (Look left false) Announce) has (λ x. refl) (λ x l. (l, tt)) (λ x. x) (λ B x y. omega arith) ov
  leave_over s k _ st c o ne has e ov = cc

  touch_over : (s : LockState AlockView) (k : ℕ) (w : Bool) (c o : Cohort) (ne : c ≢ o) → Overtaken K c o s.words s.views s.trace →
      Overtaken K c o s.words s.views (s.trace ++ event.Touch k w ∷ [])
  touch_over s k w c o ne ov =
      goes_on K c o ne s.words s.words s.views s.views s.trace (event.Touch k w ∷ []) 0 ov refl (λ n. plus_zero K c o ne n)
      (λ x l h. (l, tt)) (λ n e. inl refl) (λ i li h. h) (λ n m e lm. inr (m, lm, omega arith))

  -- all laws of a lock, and the bound of overtaking
  pub bounded_laws : (nodes : ℕ) → Seated (record { node_of = K.node_of; nodes = nodes }) → K.home < nodes →
      LockLaws (alock_table K) (AlockBounded K) (BoundsOvertaking K) (record { node_of = K.node_of; nodes = nodes })
  bounded_laws nodes seated homed =
      let laws = alock_laws K nodes seated homed in
      let acts : (s : LockState AlockView) (r : ℕ) (v : AlockView) (a : Act) → Acts (alock_table K) (AlockBounded K) s r v a → Acts
      (alock_table K) (AlockGood K) s r v a = λ s r v a h. record { is_good = h.is_good.good; has = h.has; planned = h.planned } in
      let at : (s : LockState AlockView) (r : ℕ) (v : AlockView) → AlockGood K s → slice_get s.views r ≡ Some v → slice_get s.views v.queue.member ≡ Some v =
      λ s r v g has. subst (λ z. slice_get s.views z ≡ Some v) (sym (g.own r v has)) has in
      record {
        begins = record { good = laws.begins; over = λ c o ne. record { so_far = tt; opener = λ n e. cc; room = λ n m e. cc } };
        sized = λ s g. laws.sized s g.good;
        few_words = laws.few_words;
        homes = laws.homes;
        lawful = λ s r v a h. laws.lawful s r v a (acts s r v a h);
        keeps = λ s r v a h.
            record {
              good = laws.keeps s r v a (acts s r v a h);
              over = λ c o ne.
                  subst (λ z. Overtaken K c o (acted (alock_table K) s z v a).words (acted (alock_table K) s z v a).views
                  (acted (alock_table K) s z v a).trace) (h.is_good.good.own r v h.has)
                  (act_over s v.queue.member v.queue.phase v.entry a c o ne h.is_good.good (at s r v h.is_good.good h.has) h.planned (h.is_good.over c o ne));
            };
        ask_keeps = λ s r v m g has out.
            record {
              good = laws.ask_keeps s r v m g.good has out;
              over = λ c o ne.
                  subst (λ z. Overtaken K c o s.words (slice_set s.views z (at_entry v.queue.member Clear Announce)) s.trace) (g.good.own r v has)
                  (ask_over s v.queue.member v.queue.phase v.entry c o ne (at s r v g.good has) (out_idle v.queue.phase out) (g.over c o ne));
            };
        leave_keeps_writer = λ s r v g has st.
            record {
              good = laws.leave_keeps_writer s r v g.good has st;
              over = λ c o ne.
                  subst (λ z. Overtaken K c o s.words (slice_set s.views z
                  (at_entry v.queue.member (leave_at v.queue.phase false) Announce)) (s.trace ++ event.LeaveW z ∷ []))
                  (g.good.own r v has)
                  (leave_over s v.queue.member v.queue.phase v.entry c o ne (at s r v g.good has) st (g.over c o ne));
            };
        leave_keeps_reader = λ s r v g has st. absurd (no_reader v.queue.phase st);
        touch_keeps = λ s r w g. record { good = laws.touch_keeps s r w g.good; over = λ c o ne. touch_over s r w c o ne (g.over c o ne) };
        excludes = λ s i j v w g hi hj wv hw. laws.excludes s i j v w g.good hi hj wv hw;
        suits = λ s r v m g has asked. laws.suits s r v m g.good has asked;
        first_out = laws.first_out;
        ask_asks = laws.ask_asks;
        leave_leaves = laws.leave_leaves;
        rests = λ s r v g has. laws.rests s r v g.good has;
        shifts = λ s r v a h. laws.shifts s r v a (acts s r v a h);
        waits_on_loads = λ s r v a h e. laws.waits_on_loads s r v a (acts s r v a h) e;
        orders = λ s r v a h. laws.orders s r v a (acts s r v a h);
        names = λ s r v a h. laws.names s r v a (acts s r v a h);
        within = λ s q B d g has eb. laws.within s q B d g.good has eb;
        fifo = λ s q d g has. laws.fifo s q d g.good has;
        counted = λ s q d g out has. laws.counted s q d g.good out has;
        goes_further = λ s g c. is_overtaken (is_in_cohort K c) (cohort_no c) (budget_in K (other c) + 1) s.trace (g.over c (other c) (other_differs c)).so_far;
        finds = λ s r v a one h. laws.finds s r v a one (acts s r v a h);
        moves_on = λ s r v a one h. laws.moves_on s r v a one (acts s r v a h);
      }
