-- ALock says who goes on.
use Rattle.std.specs.Prelude.{◌≡◌, ℕ, ◌<◌, ◌==◌, Bool, true, false, List, if◌then◌else◌, length, slice_get, slice_index, Some, None, refl}
use Rattle.std.proofs.Common.{sym, ◌∙◌, ap, subst, ⊎_elim, arith}
use Rattle.std.proofs.lemmas.Bool.Decides.{eqb_tells}
use Rattle.std.proofs.lemmas.Option.{same_Some}
use Rattle.rl_word.specs.laws.Places.{some_at}
use Rattle.rl_step.specs.Lock.{LockState, AllOut}
use Rattle.rl_queue.specs.declared.view.Phase.{Phase}
use Rattle.rl_queue.specs.declared.view.Phase.TheVariants.{Idle, Settle}
use Rattle.rl_queue.specs.Lane.{Busy}
use Rattle.rl_queue.specs.laws.LaneLaws.{listed_busy}
use Rattle.rl_queue.specs.Queue.{queue_next_word, status_word, plan_at}
use Rattle.rl_queue.specs.Standings.{standing_of}
use Rattle.rl_queue.specs.laws.StandingLaws.{not_out_busy}
use Rattle.rl_queue.specs.laws.Stuck.{Stuck, Goes}
use Rattle.rl_queue.specs.laws.LineGoes.{busy_goes}
use Rattle.rl_queue.specs.Urgency.{loaded}
use Rattle.rl_queue.specs.laws.UrgencyLaws.{few_at, urgent_free, free_urgent}
use Rattle.rl_alock.specs.declared.cohort.Cohort.{Cohort}
use Rattle.rl_alock.specs.declared.view.SettleStage.{SettleStage}
use Rattle.rl_alock.specs.declared.view.SettleStage.TheVariants.{Announce, Tail, Victim}
use Rattle.rl_alock.specs.declared.view.AlockView.{AlockView}
use Rattle.rl_alock.specs.Alock.{Cohorts, ranks_of, budget_in, cohort_of, cohort_no, tail_no, victim_no, other, names_of, at_entry, alock_table}
use Rattle.rl_alock.specs.AlockGood.{AlockGood, InCohort, phases_of}
use Rattle.rl_alock.specs.laws.AlockViews.{phase_get, mine_is}
use Rattle.rl_alock.specs.Overtakes.{AlockBounded}
use Rattle.rl_alock.specs.AlockLeft.{alock_left}
use Rattle.rl_alock.specs.AlockUrgency.{head_urgent, rank_urgent, alock_urgent}
use Rattle.rl_alock.specs.laws.AlockEnding.{Hangs, goes_by, lane, member_in, one_hangs}
use Rattle.rl_ending.specs.Ending.{CanGoOn}
use Rattle.rl_ending.specs.laws.EndingLaws.{all_out_or_not}
use Rattle.rl_ending.specs.Guiding.{IsChosen, LockGuides, NoneUrgent}

tail_few : (empty yields : Bool) (n : ℕ) → (if empty then Some 0 else if yields then None else Some 0) ≡ Some n → n < 8
tail_few true yields n e = let z : 0 ≡ n = cc in omega arith
tail_few false true n e = cc
tail_few false false n e = let z : 0 ≡ n = cc in omega arith

head_few : (c : Cohort) (st : SettleStage) (t v n : ℕ) → head_urgent c st t v ≡ Some n → n < 8
head_few c Announce t v n e = let z : 0 ≡ n = cc in omega arith
head_few c Tail t v n e = tail_few (t == 0) (v == cohort_no c) n e
head_few c Victim t v n e = let z : 0 ≡ n = cc in omega arith

module _ (K : Cohorts) where
  rank_few : (ws : List ℕ) (m : ℕ) (p : Phase) (st : SettleStage) (n : ℕ) → rank_urgent K ws m p st ≡ Some n → n < 8
  rank_few ws m Settle st n e = head_few (cohort_of K m) st (slice_index ws (tail_no (other (cohort_of K m)))) (slice_index ws victim_no) n e
  rank_few ws m p st n e = few_at p (loaded ws (plan_at (names_of K (cohort_of K m)) m p)) n e

  rank_busy : (ws : List ℕ) (m : ℕ) (p : Phase) (st : SettleStage) (n : ℕ) → rank_urgent K ws m p st ≡ Some n → Busy p
  rank_busy ws m Idle st n e = cc
  rank_busy ws m _ st n e = tt

  abbrev StuckAt : List ℕ → ℕ → Phase → Type 0
  StuckAt ws m p = Stuck p (slice_index ws (queue_next_word (names_of K (cohort_of K m)) m)) (slice_index ws (status_word (names_of K (cohort_of K m)) m))

  rank_free : (ws : List ℕ) (m : ℕ) (p : Phase) (st : SettleStage) (n : ℕ) → rank_urgent K ws m p st ≡ Some n → StuckAt ws m p → ⊥
  rank_free ws m Settle st n e k = k
  rank_free ws m p st n e k = urgent_free (names_of K (cohort_of K m)) ws m p n e k

  -- who hangs isn't urgent
  hangs_none : (s : LockState AlockView) (m n : ℕ) → Hangs K s m → rank_urgent K s.words m Settle Tail ≡ Some n → ⊥
  hangs_none s m n h e =
      ⊎_elim (λ q. absurd (h.waits q.1))
      (λ q. ⊎_elim (λ z. let some = q.0 in let own = z.0 in cc) (λ z. absurd (z.1 h.victim))
      (eqb_tells (slice_index s.words victim_no) (cohort_no (cohort_of K m))))
      (eqb_tells (slice_index s.words (tail_no (other (cohort_of K m)))) 0)

  -- the rank that is chosen goes on, as all do that are urgent
  chosen_goes : (s : LockState AlockView) (r : ℕ) → AlockGood K s → IsChosen (alock_urgent K s.words) s.views r → CanGoOn (alock_table K) (alock_left K) s r
  chosen_goes s r g c =
      let v = c.view in
      let p : Phase = v.queue.phase in
      let same : v.queue.member ≡ r = g.own r v c.has in
      let has : slice_get s.views r ≡ Some (at_entry r v.queue.phase v.entry) = c.has ∙ ap (λ j. Some (at_entry j v.queue.phase v.entry)) same in
      let urgent : rank_urgent K s.words r v.queue.phase v.entry ≡ Some c.urgency =
      subst (λ j. rank_urgent K s.words j v.queue.phase v.entry ≡ Some c.urgency) same c.is_urgent in
      ⊎_elim (λ go. go)
      (λ h.
      let view : at_entry r v.queue.phase v.entry ≡ at_entry r Settle Tail = same_Some _ _ (sym has ∙ h.stands) in
      absurd (hangs_none s r c.urgency h (subst (λ u. rank_urgent K s.words r u.queue.phase u.entry ≡ Some c.urgency) view urgent)))
      (goes_by K s r p v.entry has (rank_busy s.words r p v.entry c.urgency urgent) (g.flat r v c.has) (rank_free s.words r p v.entry c.urgency urgent))

  -- who uses its queue, isn't stuck there and isn't urgent hangs at the entry
  head_hangs : (s : LockState AlockView) (m : ℕ) (st : SettleStage) → slice_get s.views m ≡ Some (at_entry m Settle st) →
      rank_urgent K s.words m Settle st ≡ None → Hangs K s m
  head_hangs s m Announce has e = cc
  head_hangs s m Victim has e = cc
  head_hangs s m Tail has e =
      ⊎_elim (λ q. let empty = q.0 in cc)
      (λ q. ⊎_elim (λ z. record { stands = has; waits = q.1; victim = z.1 }) (λ z. let some = q.0 in let no = z.0 in cc)
      (eqb_tells (slice_index s.words victim_no) (cohort_no (cohort_of K m))))
      (eqb_tells (slice_index s.words (tail_no (other (cohort_of K m)))) 0)

  rank_hangs : (s : LockState AlockView) (m : ℕ) (p : Phase) (st : SettleStage) → slice_get s.views m ≡ Some (at_entry m p st) → Busy p →
      (StuckAt s.words m p → ⊥) → rank_urgent K s.words m p st ≡ None → Hangs K s m
  rank_hangs s m Settle st has busy free e = head_hangs s m st has e
  rank_hangs s m p st has busy free e = absurd (free_urgent (names_of K (cohort_of K m)) s.words m p busy free e)

  member_hangs : (s : LockState AlockView) (c : Cohort) (m : ℕ) → AlockGood K s → Goes (lane K s c) m →
      NoneUrgent (alock_urgent K s.words) s.views → Hangs K s m × (cohort_of K m ≡ c)
  member_hangs s c m g k none =
      let i = (g.queue c).inv.inside m k.busy in
      let lt = i.there in
      let all : length s.views ≡ ranks_of K = g.all_views in
      let there : m < length s.views = omega arith in
      let v = some_at s.views m there in
      let own : v.0.queue.member ≡ m = g.own m v.0 v.1 in
      let at : phases_of K c s.views m ≡ v.0.queue.phase = mine_is K c s.views m i.sits ∙ phase_get s.views m v.0 v.1 in
      let free : Stuck v.0.queue.phase (slice_index s.words (queue_next_word (names_of K c) m)) (slice_index s.words (status_word (names_of K c) m)) → ⊥ =
      λ z. k.goes (subst (λ p. Stuck p (slice_index s.words (queue_next_word (names_of K c) m))
      (slice_index s.words (status_word (names_of K c) m))) (sym at) z) in (
        rank_hangs s m v.0.queue.phase v.0.entry (v.1 ∙ ap (λ j. Some (at_entry j v.0.queue.phase v.0.entry)) own) (subst Busy at k.busy)
            (subst (λ d. Stuck v.0.queue.phase (slice_index s.words (queue_next_word (names_of K d) m))
            (slice_index s.words (status_word (names_of K d) m)) → ⊥) (sym i.sits) free)
            (subst (λ j. rank_urgent K s.words j v.0.queue.phase v.0.entry ≡ None) own (none m v.0 v.1)),
        i.sits,
      )

  -- where nobody is urgent, a queue that is used has a head that hangs
  queue_hangs : (s : LockState AlockView) (c : Cohort) (m : ℕ) → AlockGood K s → NoneUrgent (alock_urgent K s.words) s.views →
      Busy (phases_of K c s.views m) → (k : ℕ) × Hangs K s k × (cohort_of K k ≡ c)
  queue_hangs s c m g none busy =
      let k = busy_goes (Some (budget_in K c)) (InCohort K c) (lane K s c) (g.line c) m (phases_of K c s.views m) (g.queue c).inv
      (g.queue c).awaited refl busy in
      let h = member_hangs s c k.0 g k.1 none in (k.0, h.0, h.1)

  all_rest : (s : LockState AlockView) → AlockGood K s → NoneUrgent (alock_urgent K s.words) s.views → AllOut (alock_table K) s
  all_rest s g none =
      ⊎_elim (λ out. out)
      (λ b.
      let c : Cohort = cohort_of K b.0 in
      let at : phases_of K (cohort_of K b.0) s.views b.0 ≡ b.1.view.queue.phase = mine_is K (cohort_of K b.0) s.views b.0 refl
      ∙ phase_get s.views b.0 b.1.view b.1.has in
      let k = queue_hangs s (cohort_of K b.0) b.0 g none (subst Busy (sym at) (not_out_busy b.1.view.queue.phase b.1.busy)) in
      let d : Cohort = other (cohort_of K k.0) in
      let m = member_in K s (other (cohort_of K k.0)) (g.line (other (cohort_of K k.0))) g (g.queue (other (cohort_of K k.0))).inv.line k.1.waits in
      let l = (g.queue (other (cohort_of K k.0))).inv.only m.0 m.1 in
      let i = queue_hangs s (other (cohort_of K k.0)) m.0 g none (listed_busy (phases_of K (other (cohort_of K k.0)) s.views m.0) l) in
      absurd (one_hangs K s k.0 i.0 k.1 i.1 i.2))
      (all_out_or_not (λ (v : AlockView). standing_of v.queue.phase) s.views)

  pub alock_guides : LockGuides (alock_table K) (alock_left K) (AlockBounded K) (alock_urgent K)
  alock_guides =
      record {
        few = λ words v n e. rank_few words v.queue.member v.queue.phase v.entry n e;
        goes = λ s r g c. chosen_goes s r g.good c;
        rest = λ s g none. all_rest s g.good none;
      }
