-- What the laws ask of what a rank of ALock learns: its standing, its events, and that its acts are lawful.
use Rattle.std.specs.Prelude.{◌≡◌, ◌↔◌, ℕ, zero, suc, ◌+◌, ◌-◌, ◌*◌, ◌/◌, ◌<◌, ◌≤◌, ◌==◌, ◌&&◌, Bool, true, false, [], ◌∷◌, length, if◌then◌else◌, slice_get, slice_index, Option, Some, None, refl}
use Rattle.std.proofs.Common.{sym, ◌∙◌, ap, subst, arith}
use Rattle.std.proofs.lemmas.Option.{same_Some, get_or_from_slice_get}
use Rattle.rl_word.specs.laws.Places.{some_at}
use Rattle.rl_word.specs.Acts.{IsLawful}
use Rattle.rl_word.specs.declared.classes.Class.TheVariants as class
use Rattle.rl_word.specs.declared.acts.Act.{Act}
use Rattle.rl_word.specs.declared.acts.Act.TheVariants.{Load, Store, LocalCas, CardCas}
use Rattle.rl_step.specs.declared.events.Event.TheVariants as event
use Rattle.rl_step.specs.Lock.{Told, Shift, holds_only, InOrder, IsMember, AllNamed, Rests}
use Rattle.rl_step.specs.laws.QueueLemmas.{eqb_means}
use Rattle.rl_queue.specs.declared.view.Phase.{Phase}
use Rattle.rl_queue.specs.declared.view.Phase.TheVariants.{Idle, Clear, Reset, Swing, Link, Wait, Settle, Granted, Look, Close, Await, Hand, Above}
use Rattle.rl_queue.specs.laws.Choices.{choose}
use Rattle.rl_queue.specs.Queue.{TheNames, swap_act, code_left, moves_to, moves_with, waits_at, joined_at, plan_at, turn_at}
use Rattle.rl_queue.specs.Standings.{standing_of}
use Rattle.rl_queue.specs.laws.Choices.{lt_test}
use Rattle.rl_queue.specs.RankWords.{Seated}
use Rattle.rl_alock.specs.declared.view.SettleStage.{SettleStage}
use Rattle.rl_alock.specs.declared.view.SettleStage.TheVariants.{Announce, Tail, Victim}
use Rattle.rl_alock.specs.declared.view.AlockView.{AlockView}
use Rattle.rl_alock.specs.declared.cohort.Cohort.{Cohort}
use Rattle.rl_alock.specs.declared.cohort.Cohort.TheVariants.{Local, Remote}
use Rattle.rl_alock.specs.Alock.{Cohorts, cohort_of, ranks_of, cohort_no, tail_no, tail_class, names_of, queue_in, alock_spot, alock_plan, at_entry, entry_events, told_turn, settles_now, entry_told, alock_learn, alock_table, domain, other, is_in_cohort}
use Rattle.rl_alock.specs.AlockGood.{InCohort, Flat}
use Rattle.rl_alock.specs.laws.CohortLaws.{in_own}
use Rattle.rl_alock.specs.laws.AlockWords.{next_is, status_is}
use Rattle.rl_alock.specs.laws.AlockTurns.{entry_all}

-- a rank of a cohort is a member of its queue
pub member_of : (K : Cohorts) (c : Cohort) (m : ℕ) → InCohort K c m → IsMember (queue_in K Local ∷ queue_in K Remote ∷ []) (tail_no c) m
member_of K c m i = record {
  queue = queue_in K c;
  is_queue = by c;
  is_member =
      ap (λ z. z && is_in_cohort K c m) (lt_test m (ranks_of K) i.there) ∙ in_own K c m i.sits;
} where
  by : (d : Cohort) → slice_get (queue_in K Local ∷ queue_in K Remote ∷ []) (tail_no d) ≡ Some (queue_in K d)
  by Local = refl
  by Remote = refl

-- what the laws ask of what rank k, of cohort b, learns in phase p
pub record LearnFits (K : Cohorts) (k : ℕ) (p : Phase) (u : Told AlockView) : Type 0 where
  pub shift : Shift k (standing_of p) (standing_of u.view.queue.phase) (holds_only u.events)
  pub order : InOrder u.events
  pub few : length u.events ≤ 8
  pub names : AllNamed (queue_in K Local ∷ queue_in K Remote ∷ []) (alock_table K).cohort u.events

module _ (K : Cohorts) (k : ℕ) where
  -- a turn with no event that leaves its rank asking, or leaving, or out, or inside
  plain_fits : (p q : Phase) (w : Bool) → Shift k (standing_of p) (standing_of q) (holds_only (entry_events k q)) →
      LearnFits K k p (told_turn k (record { phase = q; events = []; waits = w }))
  plain_fits p q w s =
      record {
        shift = s;
        order = entry_all InOrder k q tt tt;
        few = entry_all (λ z. length z ≤ 8) k q (omega arith) (omega arith);
        names = entry_all (AllNamed (queue_in K Local ∷ queue_in K Remote ∷ []) (alock_table K).cohort) k q tt (tt, tt);
      }

  queue_fits : (p : Phase) (st : SettleStage) (a : Act) (got : ℕ) → plan_at (names_of K (cohort_of K k)) k p ≡ Some a → Flat p →
      k < ranks_of K → ((s left : ℕ) → p ≡ Hand s left → InCohort K (cohort_of K k) s) →
      LearnFits K k p (told_turn k (turn_at (names_of K (cohort_of K k)) k p got))
  queue_fits Clear st a got pl f lt hs = plain_fits Clear Reset false refl
  queue_fits Reset st a got pl f lt hs = plain_fits Reset (Swing 0) false refl
  queue_fits (Swing guess) st a got pl f lt hs =
      let i : InCohort K (cohort_of K k) k = record { there = lt; sits = refl } in
      let m = member_of K (cohort_of K k) k i in
      choose (λ u. LearnFits K k (Swing guess) (told_turn k u)) (got == guess)
      (moves_with (joined_at guess) (event.Join (tail_no (cohort_of K k)) k)) (moves_to (Swing got))
      (choose (λ q. LearnFits K k (Swing guess) (told_turn k (moves_with q (event.Join (tail_no (cohort_of K k)) k)))) (guess == 0) Settle (Link guess)
      (record { shift = refl; order = tt; few = omega arith; names = (m, tt) })
      (record { shift = refl; order = tt; few = omega arith; names = (m, tt) }))
      (plain_fits (Swing guess) (Swing got) false refl)
  queue_fits (Link guess) st a got pl f lt hs = plain_fits (Link guess) Wait false refl
  queue_fits Wait st a got pl f lt hs =
      let B : Option ℕ = (names_of K (cohort_of K k)).budget in
      choose (λ u. LearnFits K k Wait (told_turn k u)) (got == 0) (waits_at Wait)
      (if got == 1 then moves_to Settle else moves_to (Granted (code_left B got))) (plain_fits Wait Wait true refl)
      (choose (λ u. LearnFits K k Wait (told_turn k u)) (got == 1) (moves_to Settle) (moves_to (Granted (code_left B got)))
      (plain_fits Wait Settle false refl) (plain_fits Wait (Granted (code_left B got)) false refl))
  queue_fits (Look left true) st a got pl f lt hs = absurd f
  queue_fits (Look left false) st a got pl f lt hs =
      choose (λ q. LearnFits K k (Look left false) (told_turn k (moves_to q))) (got == 0) (Close left) (Hand (got - 1) left)
      (plain_fits (Look left false) (Close left) false refl) (plain_fits (Look left false) (Hand (got - 1) left) false refl)
  queue_fits (Close left) st a got pl f lt hs =
      choose (λ u. LearnFits K k (Close left) (told_turn k u)) (got == k + 1) (moves_to Idle) (moves_to (Await left))
      (plain_fits (Close left) Idle false refl) (plain_fits (Close left) (Await left) false refl)
  queue_fits (Await left) st a got pl f lt hs =
      choose (λ u. LearnFits K k (Await left) (told_turn k u)) (got == 0) (waits_at (Await left)) (moves_to (Hand (got - 1) left))
      (plain_fits (Await left) (Await left) true refl) (plain_fits (Await left) (Hand (got - 1) left) false refl)
  queue_fits (Hand s left) st a got pl f lt hs =
      let m = member_of K (cohort_of K k) s (hs s left refl) in
      choose (λ u. LearnFits K k (Hand s left) (told_turn k u)) (left == 0) (moves_to Idle)
      (moves_with Idle (event.Pass (tail_no (cohort_of K k)) s)) (plain_fits (Hand s left) Idle false refl)
      (record { shift = refl; order = tt; few = omega arith; names = (m, tt) })
  queue_fits _ st a got pl f lt hs = cc

  cohort_there : (c : Cohort) → (alock_table K).cohort (cohort_no c) ≡ true
  cohort_there Local = refl
  cohort_there Remote = refl

  settles_fits : k < ranks_of K → LearnFits K k Settle (settles_now (names_of K (cohort_of K k)) k)
  settles_fits lt =
      let i : InCohort K (cohort_of K k) k = record { there = lt; sits = refl } in
      record { shift = refl; order = (omega arith, tt); few = omega arith; names = (member_of K (cohort_of K k) k i, (tt, tt)) }

  entry_fits : (st : SettleStage) (got : ℕ) → k < ranks_of K → LearnFits K k Settle (entry_told (names_of K (cohort_of K k)) (cohort_of K k) k st got)
  entry_fits Announce got lt = record { shift = refl; order = tt; few = omega arith; names = (cohort_there (cohort_of K k), tt) }
  entry_fits Tail got lt =
      choose (LearnFits K k Settle) (got == 0) (settles_now (names_of K (cohort_of K k)) k)
      (record { view = at_entry k Settle Victim; events = []; waits = false }) (settles_fits lt)
      (record { shift = refl; order = tt; few = omega arith; names = tt })
  entry_fits Victim got lt =
      choose (LearnFits K k Settle) (got == cohort_no (cohort_of K k)) (record { view = at_entry k Settle Tail; events = []; waits = true })
      (settles_now (names_of K (cohort_of K k)) k)
      (record { shift = refl; order = tt; few = omega arith; names = tt }) (settles_fits lt)

  -- it is so for each planned act
  pub learn_fits_at : (p : Phase) (st : SettleStage) (a : Act) (got : ℕ) →
      alock_plan (names_of K (cohort_of K k)) (cohort_of K k) k p st ≡ Some a → Flat p → k < ranks_of K →
      ((s left : ℕ) → p ≡ Hand s left → InCohort K (cohort_of K k) s) →
      LearnFits K k p (alock_learn (names_of K (cohort_of K k)) (cohort_of K k) k p st got)
  learn_fits_at Idle st a got pl f lt hs = cc
  learn_fits_at Settle st a got pl f lt hs = entry_fits st got lt
  learn_fits_at (Granted left) st a got pl f lt hs = cc
  learn_fits_at (Above succ) st a got pl f lt hs = cc
  learn_fits_at p st a got pl f lt hs = queue_fits p st a got pl f lt hs

-- no act is planned exactly where a rank is out or inside
pub plan_rests : (N : TheNames) (c : Cohort) (k : ℕ) (p : Phase) (st : SettleStage) → Flat p → (alock_plan N c k p st ≡ None) ↔ Rests (standing_of p)
plan_rests N c k Idle st f = (λ e. tt, λ t. refl)
plan_rests N c k (Granted left) st f = (λ e. tt, λ t. refl)
plan_rests N c k (Above succ) st f = absurd f
plan_rests N c k _ st f = (λ e. cc, λ t. absurd t)

pub spot_home : (K : Cohorts) (nodes : ℕ) (w : ℕ) → Seated (record { node_of = K.node_of; nodes = nodes }) → K.home < nodes →
    w < 3 + 2 * ranks_of K → (alock_spot K w).home < nodes
spot_home K nodes zero seated homed lt = homed
spot_home K nodes (suc zero) seated homed lt = homed
spot_home K nodes (suc (suc zero)) seated homed lt = homed
spot_home K nodes (suc (suc (suc w))) seated homed lt =
    let k : w / 2 < length K.node_of = omega arith in
    let g = some_at K.node_of (w / 2) k in
    subst (λ z. z < nodes) (sym (get_or_from_slice_get K.node_of (w / 2) g.0 0 g.1)) (seated.sits (w / 2) g.0 g.1)

plain_from_two : (K : Cohorts) (w : ℕ) → 1 < w → (alock_spot K w).class ≡ class.Plain
plain_from_two K zero h = absurd (omega arith)
plain_from_two K (suc zero) h = absurd (omega arith)
plain_from_two K (suc (suc zero)) h = refl
plain_from_two K (suc (suc (suc w))) h = refl

module _ (K : Cohorts) (nodes : ℕ) (seated : Seated (record { node_of = K.node_of; nodes = nodes })) (homed : K.home < nodes) where
  abbrev pub MayMake : ℕ → Act → Type 0
  MayMake r a = IsLawful (3 + 2 * ranks_of K) (alock_spot K) (record { node_of = K.node_of; nodes = nodes }) r a × (domain (cohort_of K r) r a ≡ true)

  loads : (r w : ℕ) → w < 3 + 2 * ranks_of K → MayMake r (Load w)
  loads r w lt = (record { there = lt; homed = spot_home K nodes w seated homed lt; allowed = tt }, free (cohort_of K r)) where
    free : (c : Cohort) → domain c r (Load w) ≡ true
    free Local = refl
    free Remote = refl

  stores : (r w x : ℕ) → w < 3 + 2 * ranks_of K → 1 < w → MayMake r (Store w x)
  stores r w x lt up = (record { there = lt; homed = spot_home K nodes w seated homed lt; allowed = plain_from_two K w up }, free (cohort_of K r)) where
    free : (c : Cohort) → domain c r (Store w x) ≡ true
    free Local = refl
    free Remote = refl

  swaps : (r old new : ℕ) (c : Cohort) → cohort_of K r ≡ c → MayMake r (swap_act (tail_class c) (tail_no c) old new)
  swaps r old new Local e = (
    record {
      there = omega arith;
      homed = homed;
      allowed =
          (refl, eqb_means (slice_index K.node_of r) K.home (in_own K Local r e));
    },
    ap (λ z. domain z r (LocalCas 0 old new)) e,
  )
  swaps r old new Remote e = (record { there = omega arith; homed = homed; allowed = refl }, ap (λ z. domain z r (CardCas 1 old new)) e)

  tail_small : (c : Cohort) → tail_no c < 3 + 2 * ranks_of K
  tail_small Local = omega arith
  tail_small Remote = omega arith

  -- each planned act is lawful, and in its rank's domain
  pub lawful_in : (k : ℕ) (p : Phase) (st : SettleStage) (a : Act) → k < ranks_of K → ((g : ℕ) → p ≡ Link g → g - 1 < ranks_of K) →
      ((s left : ℕ) → p ≡ Hand s left → s < ranks_of K) →
      alock_plan (names_of K (cohort_of K k)) (cohort_of K k) k p st ≡ Some a → MayMake k a
  lawful_in k Clear st a lt gs hs pl = subst (MayMake k) (same_Some _ _ pl) (let e = next_is K (cohort_of K k) k lt in stores k _ _ (omega arith) (omega arith))
  lawful_in k Reset st a lt gs hs pl = subst (MayMake k) (same_Some _ _ pl) (let e = status_is K (cohort_of K k) k lt in
      stores k _ _ (omega arith) (omega arith))
  lawful_in k (Swing guess) st a lt gs hs pl = subst (MayMake k) (same_Some _ _ pl) (swaps k guess (k + 1) (cohort_of K k) refl)
  lawful_in k (Link guess) st a lt gs hs pl = subst (MayMake k) (same_Some _ _ pl) (let h = gs guess refl in let e =
      next_is K (cohort_of K k) (guess - 1) h in stores k _ _ (omega arith) (omega arith))
  lawful_in k Wait st a lt gs hs pl = subst (MayMake k) (same_Some _ _ pl) (let e = status_is K (cohort_of K k) k lt in loads k _ (omega arith))
  lawful_in k Settle Announce a lt gs hs pl = subst (MayMake k) (same_Some _ _ pl) (stores k 2 _ (omega arith) (omega arith))
  lawful_in k Settle Tail a lt gs hs pl = subst (MayMake k) (same_Some _ _ pl) (loads k _ (tail_small (other (cohort_of K k))))
  lawful_in k Settle Victim a lt gs hs pl = subst (MayMake k) (same_Some _ _ pl) (loads k 2 (omega arith))
  lawful_in k (Look left u) st a lt gs hs pl = subst (MayMake k) (same_Some _ _ pl) (let e = next_is K (cohort_of K k) k lt in loads k _ (omega arith))
  lawful_in k (Close left) st a lt gs hs pl = subst (MayMake k) (same_Some _ _ pl) (swaps k (k + 1) 0 (cohort_of K k) refl)
  lawful_in k (Await left) st a lt gs hs pl = subst (MayMake k) (same_Some _ _ pl) (let e = next_is K (cohort_of K k) k lt in loads k _ (omega arith))
  lawful_in k (Hand succ left) st a lt gs hs pl = subst (MayMake k) (same_Some _ _ pl) (let h = hs succ left refl in let e =
      status_is K (cohort_of K k) succ h in stores k _ _ (omega arith) (omega arith))
  lawful_in k _ st a lt gs hs pl = cc
