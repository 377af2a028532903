-- ALock keeps the bound of overtaking: while a cohort waits that has announced, the entries of the other and those that it may still
-- make are at most its budget and one.
use Rattle.std.specs.Prelude.{◌≡◌, ◌≢◌, ◌⊎◌, ℕ, zero, suc, ◌+◌, ◌-◌, ◌*◌, ◌<◌, ◌≤◌, ◌==◌, Bool, true, false, List, [], ◌∷◌, ◌++◌, length, if◌then◌else◌, slice_get, slice_index, slice_set, Option, Some, None, refl}
use Rattle.std.proofs.Common.{sym, ◌∙◌, ap, subst, inl, inr, ⊎_elim, arith, get_or-set_same, get_or-set_other}
use Rattle.std.proofs.lemmas.List.{append-nil}
use Rattle.std.proofs.lemmas.Option.{same_Some}
use Rattle.rl_word.specs.laws.Places.{same_or_not}
use Rattle.rl_word.specs.Acts.{word_of, written, told}
use Rattle.rl_word.specs.declared.acts.Act.{Act}
use Rattle.rl_step.specs.declared.events.Event.{Event}
use Rattle.rl_step.specs.declared.events.Event.TheVariants as event
use Rattle.rl_step.specs.Lock.{LockState}
use Rattle.rl_step.specs.Queues.{tenures}
use Rattle.rl_queue.specs.declared.view.Phase.{Phase}
use Rattle.rl_queue.specs.declared.view.Phase.TheVariants.{Idle, Clear, Reset, Swing, Link, Wait, Settle, Granted, Look, Close, Await, Hand}
use Rattle.rl_queue.specs.laws.Choices.{same_test, other_test}
use Rattle.rl_queue.specs.Queue.{TheNames, QueueTurn, status_word, full_budget, plan_at, turn_at}
use Rattle.rl_queue.specs.Lane.{lane_of, Busy, Own, IsFirst}
use Rattle.rl_queue.specs.laws.QueueMoves.{act_keeps, one_first}
use Rattle.rl_queue.specs.laws.QueueActs.{first_code}
use Rattle.rl_queue.specs.QueuesApart.{Place}
use Rattle.rl_queue.specs.laws.QueueFrame.{act_place}
use Rattle.rl_queue.specs.Heads.{head_in}
use Rattle.rl_alock.specs.declared.view.SettleStage.{SettleStage}
use Rattle.rl_alock.specs.declared.view.SettleStage.TheVariants.{Announce, Tail, Victim}
use Rattle.rl_alock.specs.declared.view.AlockView.{AlockView}
use Rattle.rl_alock.specs.declared.cohort.Cohort.{Cohort}
use Rattle.rl_alock.specs.Alock.{Cohorts, cohort_of, ranks_of, cohort_no, budget_in, names_of, queue_in, at_entry, entry_events, settles_now, other, is_in_cohort}
use Rattle.rl_alock.specs.AlockGood.{InCohort, phase_at, entry_at, phases_of, Announced, status_at, AlockGood}
use Rattle.rl_alock.specs.laws.CohortLaws.{other_cohort, same_cohort, two_same, same_no, in_own, in_other}
use Rattle.rl_alock.specs.laws.AlockViews.{phase_get, phase_set_same, phase_set_other, entry_get, entry_set_same, entry_set_other, mine_is, moves_mine}
use Rattle.rl_alock.specs.laws.AlockWords.{named_in, victim_apart, cohorts_apart}
use Rattle.rl_alock.specs.laws.AlockTurns.{entry_all}
use Rattle.rl_queue.specs.laws.QueueTurns.{turn_all}
use Rattle.rl_queue.specs.laws.PhaseLaws.{first_busy}
use Rattle.rl_alock.specs.Overtakes.{pot, pot_in, Overtaken}
use Rattle.rl_alock.specs.laws.AlockPots.{pot_victim, pot_first, head_pot, enters, act_pots, pot_of_head, head_is}
use Rattle.rl_step.specs.Overtaking.{opened, one_more, window_after, window_of, Low, OvertakenFrom}
use Rattle.rl_step.specs.laws.OvertakingLaws.{window-append, overtaken-append}

-- what entering adds, and how many enter by it
entry_both : (P : List Event → ℕ → Type 0) (m : ℕ) (q : Phase) → P [] 0 → P (event.EnterW m ∷ []) 1 → P (entry_events m q) (enters q)
entry_both P m (Granted left) a b = b
entry_both P m _ a b = a

-- a rank that plans an act of its queue hasn't announced
plans_unsaid : (N : TheNames) (m : ℕ) (p : Phase) (st : SettleStage) (a : Act) → plan_at N m p ≡ Some a → Announced p st → ⊥
plans_unsaid N m Settle st a pl h = cc
plans_unsaid N m _ st a pl h = h

-- a rank of the other cohort than rank k may let in as many after an act of k's queue, or none
others_pot : (K : Cohorts) (s : LockState AlockView) (k w x : ℕ) (v : AlockView) (m : ℕ) → AlockGood K s →
    Place (names_of K (cohort_of K k)) (InCohort K (cohort_of K k)) w → cohort_of K m ≢ cohort_of K k →
    (pot_in K (cohort_of K m) (slice_set s.words w x) (slice_set s.views k v) m ≡ 0) ⊎
    (pot_in K (cohort_of K m) (slice_set s.words w x) (slice_set s.views k v) m ≡ pot_in K (cohort_of K m) s.words s.views m)
others_pot K s k w x v m g place far = by (pot_in K (cohort_of K m) (slice_set s.words w x) (slice_set s.views k v) m) refl where
  by : (n : ℕ) → pot_in K (cohort_of K m) (slice_set s.words w x) (slice_set s.views k v) m ≡ n →
      (pot_in K (cohort_of K m) (slice_set s.words w x) (slice_set s.views k v) m ≡ 0) ⊎
      (pot_in K (cohort_of K m) (slice_set s.words w x) (slice_set s.views k v) m ≡ pot_in K (cohort_of K m) s.words s.views m)
  by zero e = inl e
  by (suc n) e =
      let us : List ℕ = slice_set s.words w x in
      let zs : List AlockView = slice_set s.views k v in
      let o : Cohort = cohort_of K m in
      let ne : m ≢ k = λ q. far (ap (cohort_of K) q) in
      let ph : phase_at zs m ≡ phase_at s.views m = phase_set_other s.views k v m ne in
      let en : entry_at zs m ≡ entry_at s.views m = entry_set_other s.views k v m ne in
      let first : IsFirst (phase_at zs m) (status_at K us m) = pot_first (budget_in K o) (slice_index us 2 == cohort_no o) (entry_at zs m)
      (phase_at zs m) (status_at K us m) (omega arith) in
      let busy : Busy (phases_of K o s.views m) = subst Busy (ph ∙ sym (mine_is K o s.views m refl)) (first_busy (phase_at zs m) (status_at K us m) first) in
      let i : InCohort K o m = (g.queue o).inv.inside m busy in
      let not_k : o ≡ other (cohort_of K k) = other_cohort o (cohort_of K k) far in
      let there : Place (names_of K (other (cohort_of K k))) (InCohort K (other (cohort_of K k))) (status_word (names_of K o) m) =
      subst (λ z. Place (names_of K z) (InCohort K z) (status_word (names_of K o) m)) not_k (inr (inr (m, (i, refl)))) in
      let st : status_at K us m ≡ status_at K s.words m = get_or-set_other s.words w (status_word (names_of K o) m) x 0
      (λ q. (cohorts_apart K (cohort_of K k)).places w place
      (subst (Place (names_of K (other (cohort_of K k))) (InCohort K (other (cohort_of K k)))) q there)) in
      let vi : slice_index us 2 ≡ slice_index s.words 2 = get_or-set_other s.words w 2 x 0
      (λ q. victim_apart K (cohort_of K k) (subst (Place (names_of K (cohort_of K k)) (InCohort K (cohort_of K k))) (sym q) place)) in
      inr (ap (λ z. pot (budget_in K o) (z == cohort_no o) (entry_at zs m) (phase_at zs m) (status_at K us m)) vi
      ∙ ap (λ z. pot (budget_in K o) (slice_index s.words 2 == cohort_no o) z (phase_at zs m) (status_at K us m)) en ∙
      ap (λ z. pot (budget_in K o) (slice_index s.words 2 == cohort_no o) (entry_at s.views m) z (status_at K us m)) ph
      ∙ ap (pot (budget_in K o) (slice_index s.words 2 == cohort_no o) (entry_at s.views m) (phase_at s.views m)) st)

module _ (K : Cohorts) (c o : Cohort) (apart : c ≢ o) where
  abbrev bound : ℕ
  bound = budget_in K o + 1

  abbrev Win : Option ℕ → List Event → Option ℕ
  Win w t = window_of (is_in_cohort K c) (cohort_no c) w t

  abbrev Fits : Option ℕ → List Event → Type 0
  Fits w t = OvertakenFrom (is_in_cohort K c) (cohort_no c) bound w t

  -- an open window is low
  low_after : (w : Option ℕ) (t : List Event) → Low bound w → Fits w t → Low bound (Win w t)
  low_after w [] l f = l
  low_after w (e ∷ t) l f = low_after (window_after (is_in_cohort K c) (cohort_no c) w e) t f.0 f.1

  -- The state goes on, with more events and x more entries of cohort o.
  pub goes_on : (ws us : List ℕ) (vs zs : List AlockView) (t es : List Event) (x : ℕ) → Overtaken K c o ws vs t → Win None es ≡ None →
      ((n : ℕ) → Win (Some n) es ≡ Some (n + x)) →
      ((w : Option ℕ) → Low bound w → ((n : ℕ) → w ≡ Some n → n + x ≤ bound) → Fits w es) →
      ((n : ℕ) → Win None t ≡ Some n → (x ≡ 0) ⊎ ((h : ℕ) × (cohort_of K h ≡ o) × (x ≤ pot_in K o ws vs h))) →
      ((k : ℕ) → cohort_of K k ≡ c → Announced (phase_at vs k) (entry_at vs k) → Announced (phase_at zs k) (entry_at zs k)) →
      ((n m : ℕ) → Win None t ≡ Some n → cohort_of K m ≡ o → (x + pot_in K o us zs m ≡ 0) ⊎
      ((h : ℕ) × (cohort_of K h ≡ o) × (x + pot_in K o us zs m ≤ pot_in K o ws vs h))) → Overtaken K c o us zs (t ++ es)
  goes_on ws us vs zs t es x g none some fits one said pots =
      let low : Low bound (Win None t) = low_after None t (λ n e. cc) g.so_far in
      let back : (w : Option ℕ) → Win None t ≡ w → (n : ℕ) → Win w es ≡ Some n → (i : ℕ) × (w ≡ Some i) × (n ≡ i + x) = by_window in
      let was : (n : ℕ) → Win None (t ++ es) ≡ Some n → (i : ℕ) × (Win None t ≡ Some i) × (n ≡ i + x) = λ n e.
      by_window (Win None t) refl n (sym (window-append (is_in_cohort K c) (cohort_no c) None t es) ∙ e) in
      record {
        so_far = overtaken-append (is_in_cohort K c) (cohort_no c) bound None t es g.so_far
            (fits (Win None t) low (λ n e. ⊎_elim (λ z. let l : n ≤ bound = low n e in omega arith)
            (λ h. let r = g.room n h.0 e h.1 in let s = h.2 in omega arith) (one n e)));
        opener = λ n e. let i = was n e in let k = g.opener i.0 i.1 in (k.0, k.1, said k.0 k.1 k.2);
        room = λ n m e lm.
            let i = was n e in
            let l : i.0 ≤ bound = low i.0 i.1 in
            ⊎_elim (λ z. let a = i.2 in omega arith) (λ h. let r = g.room i.0 h.0 i.1 h.1 in let s = h.2 in let a = i.2 in omega arith) (pots i.0 m i.1 lm);
      } where
        by_window : (w : Option ℕ) → Win None t ≡ w → (n : ℕ) → Win w es ≡ Some n → (i : ℕ) × (w ≡ Some i) × (n ≡ i + x)
        by_window None e n h = let k : None ≡ Some n = sym none ∙ h in cc
        by_window (Some i) e n h = (i, refl, sym (same_Some _ _ (sym (some i) ∙ h)))

  -- or its window closes
  pub closes : (ws us : List ℕ) (vs zs : List AlockView) (t es : List Event) → Overtaken K c o ws vs t →
      ((w : Option ℕ) → Win w es ≡ None) → ((w : Option ℕ) → Low bound w → Fits w es) → Overtaken K c o us zs (t ++ es)
  closes ws us vs zs t es g shut fits =
      let none : (n : ℕ) → Win None (t ++ es) ≡ Some n → ⊥ = λ n e. let k : None ≡ Some n = sym (shut (Win None t))
      ∙ sym (window-append (is_in_cohort K c) (cohort_no c) None t es) ∙ e in cc in
      record {
        so_far = overtaken-append (is_in_cohort K c) (cohort_no c) bound None t es g.so_far (fits (Win None t) (low_after None t (λ n e. cc) g.so_far));
        opener = λ n e. absurd (none n e);
        room = λ n m e lm. absurd (none n e);
      }

  -- a rank of cohort o enters, and a rank of cohort c
  enters_far : (k : ℕ) → cohort_of K k ≡ o → is_in_cohort K c k ≡ false
  enters_far k e = in_other K c k (λ q. apart (sym q ∙ e))

  enters_own : (k : ℕ) → cohort_of K k ≡ c → is_in_cohort K c k ≡ true
  enters_own k e = in_own K c k e

  pub plus_zero : (n : ℕ) → Some n ≡ Some (n + 0)
  plus_zero n = let e : n ≡ n + 0 = omega arith in ap Some e

  -- the events of a turn change no window
  pub turn_window : (N : TheNames) (m : ℕ) (p : Phase) (got : ℕ) (w : Option ℕ) → Win w (turn_at N m p got).events ≡ w
  turn_window N m p got w = turn_all (λ z. Win w z ≡ w) N m p got refl refl (λ s. refl)

  pub turn_holds : (N : TheNames) (m : ℕ) (p : Phase) (got : ℕ) (w : Option ℕ) → Low bound w → Fits w (turn_at N m p got).events
  turn_holds N m p got w l = turn_all (λ z. Fits w z) N m p got tt (l, tt) (λ s. (l, tt))

  -- what an entry adds: of a rank of cohort o, and of cohort c
  pub far_window : (k : ℕ) → cohort_of K k ≡ o → (w : Option ℕ) → Win w (event.EnterW k ∷ []) ≡ one_more w
  far_window k e w = ap (λ z. if z then None else one_more w) (enters_far k e)

  pub own_window : (k : ℕ) → cohort_of K k ≡ c → (w : Option ℕ) → Win w (event.EnterW k ∷ []) ≡ None
  own_window k e w = ap (λ z. if z then None else one_more w) (enters_own k e)

  low_none : Low bound None
  low_none n e = cc

  pub far_fits : (k : ℕ) → cohort_of K k ≡ o → (w : Option ℕ) → ((n : ℕ) → w ≡ Some n → n + 1 ≤ bound) → Fits w (event.EnterW k ∷ [])
  far_fits k e w h = (subst (Low bound) (sym (far_window k e w)) (more w h), tt) where
    more : (w : Option ℕ) → ((n : ℕ) → w ≡ Some n → n + 1 ≤ bound) → Low bound (one_more w)
    more None h n e = cc
    more (Some i) h n e = let k : i + 1 ≤ bound = h i refl in let s : i + 1 ≡ n = same_Some _ _ e in omega arith

  pub own_fits : (k : ℕ) → cohort_of K k ≡ c → (w : Option ℕ) → Fits w (event.EnterW k ∷ [])
  own_fits k e w = (subst (Low bound) (sym (own_window k e w)) low_none, tt)

  -- AN ACT OF A QUEUE, by a rank of cohort c: it goes on, or closes the window.
  pub queue_own : (s : LockState AlockView) (k : ℕ) (p : Phase) (st : SettleStage) (a : Act) → cohort_of K k ≡ c → AlockGood K s →
      slice_get s.views k ≡ Some (at_entry k p st) → plan_at (names_of K (cohort_of K k)) k p ≡ Some a →
      Overtaken K c o s.words s.views s.trace →
      Overtaken K c o (slice_set s.words (word_of a) (written a (slice_index s.words (word_of a))))
      (slice_set s.views k (at_entry k (turn_at (names_of K (cohort_of K k)) k p (told a (slice_index s.words (word_of a)))).phase
      Announce))
      (s.trace ++ ((turn_at (names_of K (cohort_of K k)) k p (told a (slice_index s.words (word_of a)))).events ++ entry_events k
      (turn_at (names_of K (cohort_of K k)) k p (told a (slice_index s.words (word_of a)))).phase))
  queue_own s k p st a mine g has pl ov =
      let N : TheNames = names_of K (cohort_of K k) in
      let tu : QueueTurn = turn_at N k p (told a (slice_index s.words (word_of a))) in
      let us : List ℕ = slice_set s.words (word_of a) (written a (slice_index s.words (word_of a))) in
      let w : AlockView = at_entry k tu.phase Announce in
      let zs : List AlockView = slice_set s.views k w in
      let place = act_place N (InCohort K (cohort_of K k)) s.words (phases_of K (cohort_of K k) s.views) (g.line (cohort_of K k)) s.trace
      (tenures (queue_in K (cohort_of K k)) s.trace) k p a (g.queue (cohort_of K k))
      (mine_is K (cohort_of K k) s.views k refl ∙ phase_get s.views k (at_entry k p st) has) pl in
      let said : (i : ℕ) → cohort_of K i ≡ c → Announced (phase_at s.views i) (entry_at s.views i) → Announced (phase_at zs i) (entry_at zs i) = λ i li h.
      ⊎_elim
      (λ q. absurd (plans_unsaid N k p (entry_at s.views i) a pl
      (subst (λ z. Announced z (entry_at s.views i)) (ap (phase_at s.views) q ∙ phase_get s.views k (at_entry k p st) has) h)))
      (λ q. subst (λ z. Announced z (entry_at zs i)) (sym (phase_set_other s.views k w i q))
      (subst (Announced (phase_at s.views i)) (sym (entry_set_other s.views k w i q)) h)) (same_or_not i k) in
      let pots : (n m : ℕ) → Win None s.trace ≡ Some n → cohort_of K m ≡ o → (0 + pot_in K o us zs m ≡ 0) ⊎
      ((h : ℕ) × (cohort_of K h ≡ o) × (0 + pot_in K o us zs m ≤ pot_in K o s.words s.views h)) = λ n m e lm.
      let far : cohort_of K m ≢ cohort_of K k = λ q. apart (sym mine ∙ sym q ∙ lm) in
      let r = subst (λ z. (pot_in K z us zs m ≡ 0) ⊎ (pot_in K z us zs m ≡ pot_in K z s.words s.views m)) lm
      (others_pot K s k (word_of a) (written a (slice_index s.words (word_of a))) w m g place far) in
      ⊎_elim (λ z. inl (omega arith)) (λ z. inr (m, lm, omega arith)) r in
      ⊎_elim
      (λ e0. subst (λ z. Overtaken K c o us zs (s.trace ++ z)) (sym (ap (λ z. tu.events ++ z) e0 ∙ append-nil tu.events))
      (goes_on s.words us s.views zs s.trace tu.events 0 ov (turn_window N k p _ None) (λ n. turn_window N k p _ (Some n) ∙ plus_zero n)
      (λ x l h. turn_holds N k p _ x l) (λ n e. inl refl) said pots))
      (λ e1. subst (λ z. Overtaken K c o us zs (s.trace ++ (tu.events ++ z))) (sym e1)
      (closes s.words us s.views zs s.trace (tu.events ++ event.EnterW k ∷ []) ov
      (λ x. window-append (is_in_cohort K c) (cohort_no c) x tu.events (event.EnterW k ∷ []) ∙ own_window k mine (Win x tu.events))
      (λ x l. overtaken-append (is_in_cohort K c) (cohort_no c) bound x tu.events (event.EnterW k ∷ []) (turn_holds N k p _ x l)
      (own_fits k mine (Win x tu.events)))))
      (entry_all (λ z. (z ≡ []) ⊎ (z ≡ event.EnterW k ∷ [])) k tu.phase (inl refl) (inr refl))

-- An act of a queue by a rank of the cohort that overtakes: what its head may let in pays for the entry.
queue_far : (K : Cohorts) (c : Cohort) (s : LockState AlockView) (k : ℕ) (p : Phase) (st : SettleStage) (a : Act)
    (apart : c ≢ cohort_of K k) → AlockGood K s → slice_get s.views k ≡ Some (at_entry k p st) →
    plan_at (names_of K (cohort_of K k)) k p ≡ Some a → Overtaken K c (cohort_of K k) s.words s.views s.trace →
    Overtaken K c (cohort_of K k) (slice_set s.words (word_of a) (written a (slice_index s.words (word_of a))))
    (slice_set s.views k (at_entry k (turn_at (names_of K (cohort_of K k)) k p (told a (slice_index s.words (word_of a)))).phase
    Announce))
    (s.trace ++ ((turn_at (names_of K (cohort_of K k)) k p (told a (slice_index s.words (word_of a)))).events ++ entry_events k
    (turn_at (names_of K (cohort_of K k)) k p (told a (slice_index s.words (word_of a)))).phase))
queue_far K c s k p st a apart g has pl ov =
    let o : Cohort = cohort_of K k in
    let N : TheNames = names_of K (cohort_of K k) in
    let tu : QueueTurn = turn_at N k p (told a (slice_index s.words (word_of a))) in
    let us : List ℕ = slice_set s.words (word_of a) (written a (slice_index s.words (word_of a))) in
    let w : AlockView = at_entry k tu.phase Announce in
    let zs : List AlockView = slice_set s.views k w in
    let e : ℕ = tenures (queue_in K (cohort_of K k)) s.trace in
    let here = mine_is K (cohort_of K k) s.views k refl ∙ phase_get s.views k (at_entry k p st) has in
    let mv = moves_mine K (cohort_of K k) s.views k (at_entry k p st) w refl has in
    let mine = act_keeps N (InCohort K (cohort_of K k)) s.words (phases_of K (cohort_of K k) s.views) (phases_of K (cohort_of K k) zs)
    (g.line (cohort_of K k)) s.trace e k p a (named_in K (cohort_of K k) (length s.words) g.all_words)
    (g.queue (cohort_of K k)) pl mv in
    let place = act_place N (InCohort K (cohort_of K k)) s.words (phases_of K (cohort_of K k) s.views)
    (g.line (cohort_of K k)) s.trace e k p a (g.queue (cohort_of K k)) here pl in
    let victim : slice_index us 2 ≡ slice_index s.words 2 = get_or-set_other s.words (word_of a) 2
    (written a (slice_index s.words (word_of a))) 0 (λ x. victim_apart K (cohort_of K k)
    (subst (Place N (InCohort K (cohort_of K k))) (sym x) place)) in
    let y : Bool = (slice_index s.words 2 == cohort_no (cohort_of K k)) in
    let hp : ℕ = head_pot (budget_in K (cohort_of K k)) y (entry_at s.views)
    (head_in (lane_of N s.words (phases_of K (cohort_of K k) s.views)) (g.line (cohort_of K k))) in
    let hp' : ℕ = head_pot (budget_in K (cohort_of K k)) y (entry_at zs) (head_in (lane_of N us (phases_of K (cohort_of K k) zs)) mine.0) in
    let x : ℕ = enters tu.phase in
    let spends : x + hp' ≤ hp =
    act_pots N (InCohort K (cohort_of K k)) (budget_in K (cohort_of K k)) refl y (entry_at s.views) (entry_at zs) k
    (entry_set_same s.views k (at_entry k p st) w has) (λ i ne. entry_set_other s.views k w i ne) s.words
    (phases_of K (cohort_of K k) s.views) (phases_of K (cohort_of K k) zs)
    (g.line (cohort_of K k)) mine.0 s.trace e p a (named_in K (cohort_of K k) (length s.words) g.all_words) (g.queue (cohort_of K k)) here pl mv mine.2 in
    let old : (hp ≡ 0) ⊎ ((h : ℕ) × (cohort_of K h ≡ o) × (hp ≡ pot_in K o s.words s.views h)) =
    ⊎_elim (λ z. inl z)
    (λ h. inr (h.0, h.1.sits, h.2 ∙ ap (λ z. pot (budget_in K o) y (entry_at s.views h.0) z (status_at K s.words h.0)) (mine_is K o s.views h.0 h.1.sits)))
    (head_is N (InCohort K (cohort_of K k)) (budget_in K (cohort_of K k)) y (entry_at s.views) s.words (phases_of K (cohort_of K k) s.views)
    (g.line (cohort_of K k)) s.trace e (g.queue (cohort_of K k))) in
    let new : (m : ℕ) → cohort_of K m ≡ o → pot_in K o us zs m ≤ hp' = λ m lm.
    let b = pot_of_head N (InCohort K (cohort_of K k)) (budget_in K (cohort_of K k)) y (entry_at zs) us
    (phases_of K (cohort_of K k) zs) mine.0 (s.trace ++ tu.events) e m mine.1 in
    let q : pot_in K o us zs m ≡ pot (budget_in K o) y (entry_at zs m) (phases_of K o zs m) (status_at K us m) =
    ap (λ z. pot (budget_in K o) (z == cohort_no o) (entry_at zs m) (phase_at zs m) (status_at K us m)) victim
    ∙ ap (λ z. pot (budget_in K o) y (entry_at zs m) z (status_at K us m)) (sym (mine_is K o zs m lm)) in omega arith in
    goes_on K c (cohort_of K k) apart s.words us s.views zs s.trace (tu.events ++ entry_events k tu.phase) x ov
    (window-append (is_in_cohort K c) (cohort_no c) None tu.events (entry_events k tu.phase)
    ∙ ap (λ z. window_of (is_in_cohort K c) (cohort_no c) z (entry_events k tu.phase)) (turn_window K c o apart N k p _ None)
    ∙ entry_both (λ z i. window_of (is_in_cohort K c) (cohort_no c) None z ≡ None) k tu.phase refl (far_window K c o apart k refl None))
    (λ n. window-append (is_in_cohort K c) (cohort_no c) (Some n) tu.events (entry_events k tu.phase)
    ∙ ap (λ z. window_of (is_in_cohort K c) (cohort_no c) z (entry_events k tu.phase)) (turn_window K c o apart N k p _ (Some n))
    ∙ entry_both (λ z i. window_of (is_in_cohort K c) (cohort_no c) (Some n) z ≡ Some (n + i)) k tu.phase (plus_zero K c o apart n)
    (far_window K c o apart k refl (Some n)))
    (λ v l h. overtaken-append (is_in_cohort K c) (cohort_no c) (budget_in K o + 1) v tu.events (entry_events k tu.phase) (turn_holds K c o apart N k p _ v l)
    (subst (λ z. OvertakenFrom (is_in_cohort K c) (cohort_no c) (budget_in K o + 1) z (entry_events k tu.phase)) (sym (turn_window K c o apart N k p _ v))
    (entry_both (λ z i. ((n : ℕ) → v ≡ Some n → n + i ≤ budget_in K o + 1) → OvertakenFrom (is_in_cohort K c) (cohort_no c)
    (budget_in K o + 1) v z) k tu.phase (λ f. tt) (λ f. far_fits K c o apart k refl v f) h)))
    (λ n q. ⊎_elim (λ z. inl (omega arith)) (λ h. let z = h.2 in inr (h.0, h.1, omega arith)) old)
    (λ i li h.
    let ne : i ≢ k = λ q. apart (sym li ∙ ap (cohort_of K) q) in
    subst (λ z. Announced z (entry_at zs i)) (sym (phase_set_other s.views k w i ne))
    (subst (Announced (phase_at s.views i)) (sym (entry_set_other s.views k w i ne)) h))
    (λ n m q lm. let f = new m lm in ⊎_elim (λ z. inl (omega arith)) (λ h. let z = h.2 in inr (h.0, h.1, omega arith)) old)

-- so it is kept by each act of a queue
pub queue_overtakes : (K : Cohorts) (c o : Cohort) (s : LockState AlockView) (k : ℕ) (p : Phase) (st : SettleStage) (a : Act) → c ≢ o →
    AlockGood K s → slice_get s.views k ≡ Some (at_entry k p st) → plan_at (names_of K (cohort_of K k)) k p ≡ Some a →
    Overtaken K c o s.words s.views s.trace →
    Overtaken K c o (slice_set s.words (word_of a) (written a (slice_index s.words (word_of a))))
    (slice_set s.views k (at_entry k (turn_at (names_of K (cohort_of K k)) k p (told a (slice_index s.words (word_of a)))).phase
    Announce))
    (s.trace ++ ((turn_at (names_of K (cohort_of K k)) k p (told a (slice_index s.words (word_of a)))).events ++ entry_events k
    (turn_at (names_of K (cohort_of K k)) k p (told a (slice_index s.words (word_of a)))).phase))
queue_overtakes K c o s k p st a apart g has pl ov =
    ⊎_elim
    (λ q. queue_own K c o apart s k p st a q g has pl ov)
    (λ q.
    let e : cohort_of K k ≡ o = two_same (cohort_of K k) c o q apart in
    subst
    (λ z. Overtaken K c z (slice_set s.words (word_of a) (written a (slice_index s.words (word_of a))))
    (slice_set s.views k (at_entry k (turn_at (names_of K (cohort_of K k)) k p (told a (slice_index s.words (word_of a)))).phase
    Announce))
    (s.trace ++ ((turn_at (names_of K (cohort_of K k)) k p (told a (slice_index s.words (word_of a)))).events ++ entry_events k
    (turn_at (names_of K (cohort_of K k)) k p (told a (slice_index s.words (word_of a)))).phase))) e
    (queue_far K c s k p st a (λ x. q (sym x)) g has pl (subst (λ z. Overtaken K c z s.words s.views s.trace) (sym e) ov)))
    (same_cohort (cohort_of K k) c)

-- a head that has announced is first
said_first : (p : Phase) (e : SettleStage) (x : ℕ) → Announced p e → IsFirst p x
said_first Idle e x h = h
said_first Clear e x h = h
said_first Reset e x h = h
said_first (Swing g) e x h = h
said_first (Link g) e x h = h
said_first Wait e x h = absurd h
said_first _ e x h = tt

settle_low : (B : ℕ) (y : Bool) (e : SettleStage) (x : ℕ) → pot B y e Settle x ≤ B + 1
settle_low B y Announce x = omega arith
settle_low B true Tail x = omega arith
settle_low B false Tail x = omega arith
settle_low B true Victim x = omega arith
settle_low B false Victim x = omega arith

-- The acts of the entry, and the moves that are no acts. A rank's view changes at one place:
there_now : (vs : List AlockView) (k : ℕ) (v w : AlockView) (m : ℕ) → slice_get vs k ≡ Some v → m ≡ k →
    (phase_at (slice_set vs k w) m ≡ w.queue.phase) × (entry_at (slice_set vs k w) m ≡ w.entry)
there_now vs k v w m has q = (
  ap (phase_at (slice_set vs k w)) q ∙ phase_set_same vs k v w has,
  ap (entry_at (slice_set vs k w)) q
      ∙ entry_set_same vs k v w has,
)

there_was : (vs : List AlockView) (k : ℕ) (v : AlockView) (m : ℕ) → slice_get vs k ≡ Some v → m ≡ k →
    (phase_at vs m ≡ v.queue.phase) × (entry_at vs m ≡ v.entry)
there_was vs k v m has q = (ap (phase_at vs) q ∙ phase_get vs k v has, ap (entry_at vs) q ∙ entry_get vs k v has)

pub pot_by : (K : Cohorts) (o : Cohort) (ws : List ℕ) (vs : List AlockView) (m : ℕ) (p : Phase) (e : SettleStage) → phase_at vs m ≡ p →
    entry_at vs m ≡ e → pot_in K o ws vs m ≡ pot (budget_in K o) (slice_index ws 2 == cohort_no o) e p (status_at K ws m)
pot_by K o ws vs m p e ep ee = ap (λ z. pot (budget_in K o) (slice_index ws 2 == cohort_no o) z (phase_at vs m) (status_at K ws m)) ee
    ∙ ap (λ z. pot (budget_in K o) (slice_index ws 2 == cohort_no o) e z (status_at K ws m)) ep

pot_other : (K : Cohorts) (o : Cohort) (ws : List ℕ) (vs : List AlockView) (k : ℕ) (w : AlockView) (m : ℕ) → m ≢ k →
    pot_in K o ws (slice_set vs k w) m ≡ pot_in K o ws vs m
pot_other K o ws vs k w m ne =
    pot_by K o ws (slice_set vs k w) m (phase_at vs m) (entry_at vs m) (phase_set_other vs k w m ne) (entry_set_other vs k w m ne)

said_other : (vs : List AlockView) (k : ℕ) (w : AlockView) (i : ℕ) → i ≢ k → Announced (phase_at vs i) (entry_at vs i) →
    Announced (phase_at (slice_set vs k w) i) (entry_at (slice_set vs k w) i)
said_other vs k w i ne h = subst (λ z. Announced z (entry_at (slice_set vs k w) i)) (sym (phase_set_other vs k w i ne))
    (subst (Announced (phase_at vs i)) (sym (entry_set_other vs k w i ne)) h)

module _ (K : Cohorts) (c o : Cohort) (apart : c ≢ o) where
  -- A rank moves on with no entry and lets in no more, where it had not announced or goes on so.
  pub still_overtakes : (ws : List ℕ) (vs : List AlockView) (t es : List Event) (k : ℕ) (v w : AlockView) → slice_get vs k ≡ Some v →
      ((x : Option ℕ) → window_of (is_in_cohort K c) (cohort_no c) x es ≡ x) →
      ((x : Option ℕ) → Low (budget_in K o + 1) x → OvertakenFrom (is_in_cohort K c) (cohort_no c) (budget_in K o + 1) x es) →
      (Announced v.queue.phase v.entry → Announced w.queue.phase w.entry) →
      ((B s : ℕ) (y : Bool) → pot B y w.entry w.queue.phase s ≤ pot B y v.entry v.queue.phase s) → Overtaken K c o ws vs t → Overtaken K
      c o ws (slice_set vs k w) (t ++ es)
  still_overtakes ws vs t es k v w has quiet fits said less ov =
      goes_on K c o apart ws ws vs (slice_set vs k w) t es 0 ov (quiet None) (λ n. quiet (Some n) ∙ plus_zero K c o apart n)
      (λ x l h. fits x l) (λ n e. inl refl)
      (λ i li h. ⊎_elim
      (λ q. let a = there_now vs k v w i has q in let b = there_was vs k v i has q in
      subst (λ z. Announced z (entry_at (slice_set vs k w) i)) (sym a.0)
      (subst (Announced w.queue.phase) (sym a.1)
      (said (subst (λ z. Announced z v.entry) b.0 (subst (Announced (phase_at vs i)) b.1 h)))))
      (λ q. said_other vs k w i q h) (same_or_not i k))
      (λ n m e lm. ⊎_elim
      (λ q. let a = there_now vs k v w m has q in let b = there_was vs k v m has q in
      let x = pot_by K o ws (slice_set vs k w) m w.queue.phase w.entry a.0 a.1 in let y = pot_by K o ws vs m v.queue.phase v.entry b.0 b.1 in
      let l = less (budget_in K o) (status_at K ws m) (slice_index ws 2 == cohort_no o) in inr (m, lm, omega arith))
      (λ q. let x = pot_other K o ws vs k w m q in inr (m, lm, omega arith)) (same_or_not m k))

  -- A head settles and enters: its own window closes, and it takes its place from what it might let in.
  pub settle_overtakes : (ws : List ℕ) (vs : List AlockView) (t : List Event) (k : ℕ) (st : SettleStage) →
      slice_get vs k ≡ Some (at_entry k Settle st) → ((m : ℕ) → cohort_of K m ≡ cohort_of K k → IsFirst (phase_at vs m) (status_at K ws m) →
      m ≡ k) →
      (cohort_of K k ≡ o → (n : ℕ) → window_of (is_in_cohort K c) (cohort_no c) None t ≡ Some n → pot_in K o ws vs k ≡ budget_in K o + 1) →
      Overtaken K c o ws vs t →
      Overtaken K c o ws (slice_set vs k (settles_now (names_of K (cohort_of K k)) k).view) (t ++ (settles_now (names_of K (cohort_of K k)) k).events)
  settle_overtakes ws vs t k st has alone may ov =
      let w : AlockView = (settles_now (names_of K (cohort_of K k)) k).view in
      let es : List Event = (settles_now (names_of K (cohort_of K k)) k).events in
      ⊎_elim
      (λ q. closes K c o apart ws ws vs (slice_set vs k w) t es ov (λ x. own_window K c o apart k q x) (λ x l. (l, own_fits K c o apart k q x)))
      (λ q.
      let e : cohort_of K k ≡ o = two_same (cohort_of K k) c o q apart in
      goes_on K c o apart ws ws vs (slice_set vs k w) t es 1 ov (far_window K c o apart k e None) (λ n. far_window K c o apart k e (Some n))
      (λ x l h. (l, far_fits K c o apart k e x h))
      (λ n r. let z = may e n r in inr (k, e, omega arith))
      (λ i li h. said_other vs k w i (λ r. apart (sym li ∙ ap (cohort_of K) r ∙ e)) h)
      (λ n m r lm.
      let z = may e n r in
      ⊎_elim
      (λ x. let a = there_now vs k (at_entry k Settle st) w m has x in
      let y = pot_by K o ws (slice_set vs k w) m w.queue.phase w.entry a.0 a.1 in
      let b : full_budget (names_of K (cohort_of K k)).budget ≡ budget_in K o = ap (budget_in K) e in inr (k, e, omega arith))
      (λ x. inr (k, e, by_first m (pot_in K o ws (slice_set vs k w) m) refl x lm e z)) (same_or_not m k)))
      (same_cohort (cohort_of K k) c) where
        by_first : (m p : ℕ) → pot_in K o ws (slice_set vs k (settles_now (names_of K (cohort_of K k)) k).view) m ≡ p → m ≢ k →
            cohort_of K m ≡ o → cohort_of K k ≡ o → pot_in K o ws vs k ≡ budget_in K o + 1 →
            1 + pot_in K o ws (slice_set vs k (settles_now (names_of K (cohort_of K k)) k).view) m ≤ pot_in K o ws vs k
        by_first m zero eq ne lm e z = omega arith
        by_first m (suc p) eq ne lm e z =
            let x = pot_other K o ws vs k (settles_now (names_of K (cohort_of K k)) k).view m ne in
            absurd (ne (alone m (lm ∙ sym e) (pot_first (budget_in K o) (slice_index ws 2 == cohort_no o) (entry_at vs m) (phase_at vs m)
            (status_at K ws m) (omega arith))))

  -- nobody of cohort o may let in more than its budget and one
  pot_low : (s : LockState AlockView) (y : Bool) (m : ℕ) → AlockGood K s → cohort_of K m ≡ o →
      pot (budget_in K o) y (entry_at s.views m) (phase_at s.views m) (status_at K s.words m) ≤ budget_in K o + 1
  pot_low s y m g lm = by (phase_at s.views m) (entry_at s.views m) refl where
    own : (p : Phase) → phase_at s.views m ≡ p → Own (Some (budget_in K o)) (InCohort K o) p
        (slice_index s.words (slice_index (names_of K o).next m)) (status_at K s.words m)
    own p e = subst (λ z. Own (Some (budget_in K o)) (InCohort K o) z (slice_index s.words (slice_index (names_of K o).next m))
        (status_at K s.words m)) (mine_is K o s.views m lm ∙ e) ((g.queue o).inv.own m)

    code : (x : ℕ) → status_at K s.words m ≡ x → phase_at s.views m ≡ Wait → status_at K s.words m - 1 ≤ budget_in K o + 1
    code zero e w = omega arith
    code (suc x) e w =
        let c = first_code (names_of K o) (InCohort K o) s.words (phases_of K o s.views) (g.line o) s.trace
        (tenures (queue_in K o) s.trace) m (g.queue o) (mine_is K o s.views m lm ∙ w) (omega arith) in
        let d : status_at K s.words m ≤ budget_in K o + 1 = c.1 in omega arith

    by : (p : Phase) (e : SettleStage) → phase_at s.views m ≡ p → pot (budget_in K o) y e p (status_at K s.words m) ≤ budget_in K o + 1
    by Wait e q = code (status_at K s.words m) refl q
    by Settle Announce q = omega arith
    by Settle Tail q = settle_low (budget_in K o) y Tail (status_at K s.words m)
    by Settle Victim q = settle_low (budget_in K o) y Victim (status_at K s.words m)
    by (Granted left) e q = let a = own (Granted left) q in let b : left ≤ budget_in K o = a.0 in omega arith
    by (Look left u) e q = let a = own (Look left u) q in let b : left ≤ budget_in K o = a.0 in omega arith
    by (Close left) e q = let b : left ≤ budget_in K o = own (Close left) q in omega arith
    by (Await left) e q = let b : left ≤ budget_in K o = own (Await left) q in omega arith
    by (Hand succ left) e q = let a = own (Hand succ left) q in let b : left ≤ budget_in K o = a.0 in omega arith
    by _ e q = omega arith

  -- a write to the victim changes no status that tells
  status_kept : (s : LockState AlockView) (k : ℕ) (x : ℕ) (v w : AlockView) (m : ℕ) (y : Bool) → AlockGood K s →
      slice_get s.views k ≡ Some v → w.queue.phase ≡ v.queue.phase →
      (pot (budget_in K o) y (entry_at (slice_set s.views k w) m) (phase_at (slice_set s.views k w) m)
      (status_at K (slice_set s.words 2 x) m) ≡ 0) ⊎ (status_at K (slice_set s.words 2 x) m ≡ status_at K s.words m)
  status_kept s k x v w m y g has same_phase =
      by (pot (budget_in K o) y (entry_at (slice_set s.views k w) m) (phase_at (slice_set s.views k w) m)
      (status_at K (slice_set s.words 2 x) m)) refl where
        by : (n : ℕ) → pot (budget_in K o) y (entry_at (slice_set s.views k w) m) (phase_at (slice_set s.views k w) m) (status_at K (slice_set s.words 2 x) m) ≡ n →
            (pot (budget_in K o) y (entry_at (slice_set s.views k w) m) (phase_at (slice_set s.views k w) m)
            (status_at K (slice_set s.words 2 x) m) ≡ 0) ⊎ (status_at K (slice_set s.words 2 x) m ≡ status_at K s.words m)
        by zero e = inl e
        by (suc n) e =
            let first : IsFirst (phase_at (slice_set s.views k w) m) (status_at K (slice_set s.words 2 x) m) =
            pot_first (budget_in K o) y (entry_at (slice_set s.views k w) m) (phase_at (slice_set s.views k w) m)
            (status_at K (slice_set s.words 2 x) m) (omega arith) in
            let same : phase_at (slice_set s.views k w) m ≡ phase_at s.views m =
            ⊎_elim (λ q. (there_now s.views k v w m has q).0 ∙ same_phase ∙ sym (there_was s.views k v m has q).0)
            (λ q. phase_set_other s.views k w m q) (same_or_not m k) in
            let busy : Busy (phases_of K (cohort_of K m) s.views m) =
            subst Busy (same ∙ sym (mine_is K (cohort_of K m) s.views m refl))
            (first_busy (phase_at (slice_set s.views k w) m) (status_at K (slice_set s.words 2 x) m) first) in
            let i : InCohort K (cohort_of K m) m = (g.queue (cohort_of K m)).inv.inside m busy in
            inr (get_or-set_other s.words 2 (status_word (names_of K (cohort_of K m)) m) x 0 (λ q. victim_apart K (cohort_of K m) (inr (inr (m, (i, sym q))))))

  -- A head announces: its window opens, and it may let nobody in any more.
  pub announce_overtakes : (s : LockState AlockView) (k : ℕ) → AlockGood K s → slice_get s.views k ≡ Some (at_entry k Settle Announce) →
      Overtaken K c o s.words s.views s.trace →
      Overtaken K c o (slice_set s.words 2 (cohort_no (cohort_of K k))) (slice_set s.views k (at_entry k Settle Tail))
      (s.trace ++ event.Announce (cohort_no (cohort_of K k)) ∷ [])
  announce_overtakes s k g has ov =
      let w : AlockView = at_entry k Settle Tail in
      let us : List ℕ = slice_set s.words 2 (cohort_no (cohort_of K k)) in
      let zs : List AlockView = slice_set s.views k w in
      let es : List Event = event.Announce (cohort_no (cohort_of K k)) ∷ [] in
      let there : 2 < length s.words = let e : length s.words ≡ 3 + 2 * ranks_of K = g.all_words in omega arith in
      let now : slice_index us 2 ≡ cohort_no (cohort_of K k) = get_or-set_same s.words 2 (cohort_no (cohort_of K k)) 0 there in
      let here = there_was s.views k (at_entry k Settle Announce) k has refl in
      ⊎_elim
      (λ q.
      let shut : window_of (is_in_cohort K c) (cohort_no c) None s.trace ≡ None = by_window (window_of (is_in_cohort K c) (cohort_no c) None s.trace) refl q in
      let open_now : window_of (is_in_cohort K c) (cohort_no c) None (s.trace ++ es) ≡ Some 0 =
      window-append (is_in_cohort K c) (cohort_no c) None s.trace es ∙ ap (λ z. window_of (is_in_cohort K c) (cohort_no c) z es) shut
      ∙ ap (λ z. if z then Some 0 else None) (ap (λ z. cohort_no z == cohort_no c) q ∙ same_test (cohort_no c)) in
      record {
        so_far = overtaken-append (is_in_cohort K c) (cohort_no c) (budget_in K o + 1) None s.trace es ov.so_far
            (subst (λ z. OvertakenFrom (is_in_cohort K c) (cohort_no c) (budget_in K o + 1) z es) (sym shut) (
              subst (Low (budget_in K o + 1))
                  (sym (ap (λ z. if z then Some 0 else None) (ap (λ z. cohort_no z == cohort_no c) q ∙ same_test (cohort_no c))))
                  (λ n e. let z : 0 ≡ n = same_Some _ _ e in omega arith),
              tt,
            ));
        opener = λ n e. (
          k,
          q,
          let a = there_now s.views k (at_entry k Settle Announce) w k has refl in
              subst (λ z. Announced z (entry_at zs k)) (sym a.0) (subst (Announced Settle) (sym a.1) tt),
        );
        room = λ n m e lm.
            let z : 0 ≡ n = same_Some _ _ (sym open_now ∙ e) in
            let ne : m ≢ k = λ r. apart (sym q ∙ ap (cohort_of K) (sym r) ∙ lm) in
            let p = pot_other K o us s.views k w m ne in
            ⊎_elim
            (λ x. omega arith)
            (λ x. let l = pot_low s (slice_index us 2 == cohort_no o) m g lm in
            let y : pot_in K o us s.views m ≡ pot (budget_in K o) (slice_index us 2 == cohort_no o) (entry_at s.views m)
            (phase_at s.views m) (status_at K s.words m) = ap
            (pot (budget_in K o) (slice_index us 2 == cohort_no o) (entry_at s.views m) (phase_at s.views m)) x in omega arith)
            (status_kept s k (cohort_no (cohort_of K k)) (at_entry k Settle Announce) w m (slice_index us 2 == cohort_no o) g has refl);
      })
      (λ q.
      let e : cohort_of K k ≡ o = two_same (cohort_of K k) c o q apart in
      let closed : (cohort_no (cohort_of K k) == cohort_no c) ≡ false =
      other_test (cohort_no (cohort_of K k)) (cohort_no c) (λ r. q (same_no (cohort_of K k) c r)) in
      let yes : (slice_index us 2 == cohort_no o) ≡ true = ap (λ z. z == cohort_no o) (now ∙ ap cohort_no e) ∙ same_test (cohort_no o) in
      let quiet : (x : Option ℕ) → window_of (is_in_cohort K c) (cohort_no c) x es ≡ x = λ x. ap (λ z. if z then opened x else x) closed in
      goes_on K c o apart s.words us s.views zs s.trace es 0 ov (quiet None) (λ n. quiet (Some n) ∙ plus_zero K c o apart n)
      (λ x l h. (subst (Low (budget_in K o + 1)) (sym (quiet x)) l, tt)) (λ n r. inl refl)
      (λ i li h. said_other s.views k w i (λ r. apart (sym li ∙ ap (cohort_of K) r ∙ e)) h)
      (λ n m r lm.
      let to_true : pot_in K o us zs m ≡ pot (budget_in K o) true (entry_at zs m) (phase_at zs m) (status_at K us m) =
      ap (λ z. pot (budget_in K o) z (entry_at zs m) (phase_at zs m) (status_at K us m)) yes in
      ⊎_elim
      (λ x. let a = there_now s.views k (at_entry k Settle Announce) w m has x in
      let z : pot (budget_in K o) true (entry_at zs m) (phase_at zs m) (status_at K us m) ≡ 0 =
      ap (λ u. pot (budget_in K o) true u (phase_at zs m) (status_at K us m)) a.1
      ∙ ap (λ u. pot (budget_in K o) true Tail u (status_at K us m)) a.0 in inl (omega arith))
      (λ x. ⊎_elim
      (λ z. inl (omega arith))
      (λ z.
      let b : pot (budget_in K o) true (entry_at zs m) (phase_at zs m) (status_at K us m) ≡ pot (budget_in K o) true (entry_at s.views m)
      (phase_at s.views m) (status_at K s.words m) =
      ap (λ u. pot (budget_in K o) true u (phase_at zs m) (status_at K us m)) (entry_set_other s.views k w m x)
      ∙ ap (λ u. pot (budget_in K o) true (entry_at s.views m) u (status_at K us m)) (phase_set_other s.views k w m x)
      ∙ ap (pot (budget_in K o) true (entry_at s.views m) (phase_at s.views m)) z in
      let l = pot_victim (budget_in K o) (slice_index s.words 2 == cohort_no o) (entry_at s.views m) (phase_at s.views m) (status_at K s.words m) in
      inr (m, lm, omega arith))
      (status_kept s k (cohort_no (cohort_of K k)) (at_entry k Settle Announce) w m true g has refl))
      (same_or_not m k)))
      (same_cohort (cohort_of K k) c) where
        by_window : (w : Option ℕ) → window_of (is_in_cohort K c) (cohort_no c) None s.trace ≡ w → cohort_of K k ≡ c →
            window_of (is_in_cohort K c) (cohort_no c) None s.trace ≡ None
        by_window None e q = e
        by_window (Some n) e q =
            let z = ov.opener n e in
            let zl : cohort_of K z.0 ≡ cohort_of K k = z.1 ∙ sym q in
            let first_z : IsFirst (phases_of K (cohort_of K k) s.views z.0) (status_at K s.words z.0) =
            subst (λ y. IsFirst y (status_at K s.words z.0)) (sym (mine_is K (cohort_of K k) s.views z.0 zl))
            (said_first (phase_at s.views z.0) (entry_at s.views z.0) (status_at K s.words z.0) z.2) in
            let first_k : IsFirst (phases_of K (cohort_of K k) s.views k) (status_at K s.words k) =
            subst (λ y. IsFirst y (status_at K s.words k)) (sym
            (mine_is K (cohort_of K k) s.views k refl ∙ phase_get s.views k (at_entry k Settle Announce) has)) tt in
            let same_rank : z.0 ≡ k = one_first (names_of K (cohort_of K k)) (InCohort K (cohort_of K k)) s.words
            (phases_of K (cohort_of K k) s.views) (g.line (cohort_of K k)) s.trace (tenures (queue_in K (cohort_of K k)) s.trace) z.0 k
            (g.queue (cohort_of K k)) first_z first_k in
            let b = there_was s.views k (at_entry k Settle Announce) z.0 has same_rank in
            let no : Announced Settle Announce = subst (λ y. Announced y Announce) b.0 (subst (Announced (phase_at s.views z.0)) b.1 z.2) in
            absurd no
