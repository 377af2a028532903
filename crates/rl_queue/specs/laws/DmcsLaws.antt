-- D-MCS meets the laws of a lock.
use Rattle.std.specs.Prelude.{◌≡◌, ℕ, zero, suc, ◌+◌, ◌-◌, ◌*◌, ◌<◌, ◌≤◌, Bool, true, false, List, [], ◌∷◌, ◌++◌, length, replicate, slice_get, slice_index, slice_set, Some, None, refl}
use Rattle.std.proofs.Common.{sym, ◌∙◌, ap, subst, arith, length-set}
use Rattle.std.proofs.lemmas.List.{length-replicate}
use Rattle.std.proofs.lemmas.Option.{same_Some}
use Rattle.rl_word.specs.Acts.{word_of, told, Layout}
use Rattle.rl_word.specs.declared.classes.Mode.{Mode}
use Rattle.rl_word.specs.declared.classes.Mode.TheVariants as mode
use Rattle.rl_word.specs.declared.acts.Act.{Act}
use Rattle.rl_step.specs.declared.events.Event.{Event}
use Rattle.rl_step.specs.declared.events.Event.TheVariants as event
use Rattle.rl_step.specs.declared.events.Standing.TheVariants as standing
use Rattle.rl_step.specs.Lock.{LockTable, LockState, LockLaws, opening, acted, asked, left as left_state, touched, found, Shift, holds_only, no_more, IsLoad, PlansLoad}
use Rattle.rl_step.specs.laws.LockLemmas.{length-first_views, first_views_at}
use Rattle.rl_step.specs.Queues.{IsFifo, settled, passed, tenures, count}
use Rattle.rl_step.specs.laws.QueueLemmas.{tenures-append}
use Rattle.rl_queue.specs.declared.view.Phase.{Phase}
use Rattle.rl_queue.specs.declared.view.Phase.TheVariants.{Idle, Clear, Link, Granted, Look}
use Rattle.rl_queue.specs.declared.view.QueueView.{QueueView}
use Rattle.rl_queue.specs.Queue.{queue_next_word, status_word, at_phase, plan_at, turn_at, PlanFits, PhaseFits, GotFits}
use Rattle.rl_queue.specs.Lane.{Awaits, SuitsAlone, Listed, Busy, Own, IsFirst}
use Rattle.rl_queue.specs.QueueGood.{QueueGood}
use Rattle.rl_queue.specs.laws.QueueMoves.{join_keeps, leave_keeps, beside_keeps, one_first, queue_fifo, queue_counted}
use Rattle.rl_queue.specs.laws.QueueFits.{plan_fits, learn_fits, alone_finds, alone_moves_on, waits_on}
use Rattle.rl_queue.specs.laws.Choices.{lt_test}
use Rattle.rl_queue.specs.RankWords.{every_second, Seated}
use Rattle.rl_queue.specs.laws.RankWordLaws.{length-every_second, all_zero}
use Rattle.rl_queue.specs.Standings.{standing_of}
use Rattle.rl_queue.specs.laws.StandingLaws.{no_reader, writer_first, holder_first, leaving_at, out_idle, suits_at}
use Rattle.rl_queue.specs.Dmcs.{dmcs_names, dmcs_learn, dmcs_queue, dmcs_table, phase_in, Calm, Below, DmcsGood}
use Rattle.rl_queue.specs.laws.DmcsWords.{word_home, lawful_at}
use Rattle.rl_queue.specs.laws.DmcsPhases.{phase_get, moves_in, first_idle, all_idle, rests_at}
use Rattle.rl_queue.specs.laws.DmcsTurns.{enter_waits, enter_loads}
use Rattle.rl_queue.specs.laws.DmcsActs.{stays_good, rank_below, succ_below, act_fits, act_keeps_at}

-- the opening state is good, with an empty line
begins_at : (home : ℕ) (node_of : List ℕ) → DmcsGood (length node_of) (opening (dmcs_table home node_of) (length node_of))
begins_at home node_of =
    let n : ℕ = length node_of in
    let s : LockState QueueView = opening (dmcs_table home node_of) (length node_of) in
    let idle : (m : ℕ) → phase_in (opening (dmcs_table home node_of) (length node_of)).views m ≡ Idle = λ m. first_idle 0 (length node_of) m in
    let first : (r : ℕ) (v : QueueView) → slice_get (opening (dmcs_table home node_of) (length node_of)).views r ≡ Some v → v ≡ at_phase (0 + r) Idle =
    λ r v h. first_views_at (λ i. at_phase i Idle) 0 (length node_of) r v h in
    record {
      all_words = length-replicate (1 + 2 * length node_of) 0;
      all_views = length-first_views (λ i. at_phase i Idle) 0 (length node_of);
      all_modes = length-replicate (length node_of) mode.Write;
      named = λ r v h. ap (λ z. z.member) (first r v h) ∙ omega arith;
      calm = λ r v h. subst (λ z. Calm z.phase) (sym (first r v h)) tt;
      line = [];
      queue = record {
        inv = record {
          distinct = tt;
          listed = λ m h. subst Listed (idle m) h;
          only = λ m h. absurd h;
          line = all_zero (1 + 2 * length node_of) 0;
          own = λ m. subst (λ z. Own None (Below (length node_of)) z
              (slice_index (replicate (1 + 2 * length node_of) 0) (queue_next_word (dmcs_names (length node_of)) m))
              (slice_index (replicate (1 + 2 * length node_of) 0) (status_word (dmcs_names (length node_of)) m))) (sym (idle m)) tt;
          inside = λ m b. absurd (subst Busy (idle m) b);
        };
        alone = λ m h. subst SuitsAlone (sym (idle m)) tt;
        awaited = λ m x. absurd (subst Awaits (idle m) x);
        says = record { fifo = refl; tenure = refl; within = λ b e. cc };
      };
    }

-- asking keeps a state good
ask_keeps_at : (home : ℕ) (node_of : List ℕ) (s : LockState QueueView) (r k : ℕ) (p : Phase) (m : Mode) → DmcsGood (length node_of) s →
    slice_get s.views r ≡ Some (at_phase k p) → standing_of p ≡ standing.Out →
    DmcsGood (length node_of) (asked (dmcs_table home node_of) s r (at_phase k p) m)
ask_keeps_at home node_of s r k Idle m g has st =
    stays_good (length node_of) s _ r (at_phase k Idle) (at_phase k Clear) g has refl refl (length-set s.modes r m) (g.named r _ has) tt (
      g.line,
      join_keeps (dmcs_names (length node_of)) (Below (length node_of)) s.words (phase_in s.views) _ g.line s.trace
          (tenures (dmcs_queue (length node_of)) s.trace) r g.queue (rank_below (length node_of) s r _ g has)
          (moves_in s.views r k Idle Clear has),
    )
ask_keeps_at home node_of s r k _ m g has st = cc

-- a rank's departure ends one tenure
ends_one : (n r : ℕ) (t : List Event) → r < n → tenures (dmcs_queue n) t + 1 ≡ tenures (dmcs_queue n) (t ++ event.LeaveW r ∷ [])
ends_one n r t h =
    let a : tenures (dmcs_queue n) (event.LeaveW r ∷ []) ≡ 1 = ap (λ b. count b + 0) (lt_test r n h) in
    let b = tenures-append (dmcs_queue n) t (event.LeaveW r ∷ []) in
    omega arith

-- so does leaving, with the leave event
leave_keeps_at : (home : ℕ) (node_of : List ℕ) (s : LockState QueueView) (r k : ℕ) (p : Phase) → DmcsGood (length node_of) s →
    slice_get s.views r ≡ Some (at_phase k p) → standing_of p ≡ standing.Writer →
    DmcsGood (length node_of) (left_state (dmcs_table home node_of) s r (at_phase k p) (event.LeaveW r))
leave_keeps_at home node_of s r k (Granted left) g has st =
    let q = leave_keeps (dmcs_names (length node_of)) (Below (length node_of)) s.words (phase_in s.views)
    (phase_in (slice_set s.views r (at_phase k (Look left false)))) g.line s.trace
    (tenures (dmcs_queue (length node_of)) s.trace) r left false (event.LeaveW r) g.queue tt
    (moves_in s.views r k (Granted left) (Look left false) has) in
    stays_good (length node_of) s _ r (at_phase k (Granted left)) (at_phase k (Look left false)) g has refl refl refl (g.named r _ has) tt (
      g.line,
      subst (λ z. QueueGood (dmcs_names (length node_of)) (Below (length node_of)) s.words
          (phase_in (slice_set s.views r (at_phase k (Look left false)))) g.line (s.trace ++ event.LeaveW r ∷ []) z)
          (ends_one (length node_of) r s.trace (rank_below (length node_of) s r _ g has)) q,
    )
leave_keeps_at home node_of s r k _ g has st = cc

-- and a touch
touch_keeps_at : (n : ℕ) (s : LockState QueueView) (r : ℕ) (w : Bool) → DmcsGood n s → DmcsGood n (touched s r w)
touch_keeps_at n s r w g =
    let same : tenures (dmcs_queue n) s.trace ≡ tenures (dmcs_queue n) (s.trace ++ event.Touch r w ∷ []) =
    let a : tenures (dmcs_queue n) (event.Touch r w ∷ []) ≡ 0 = refl in
    let b = tenures-append (dmcs_queue n) s.trace (event.Touch r w ∷ []) in omega arith in
    record {
      all_words = g.all_words;
      all_views = g.all_views;
      all_modes = g.all_modes;
      named = g.named;
      calm = g.calm;
      line = g.line;
      queue = subst (λ z. QueueGood (dmcs_names n) (Below n) s.words (phase_in s.views) g.line (s.trace ++ event.Touch r w ∷ []) z) same
          (beside_keeps (dmcs_names n) (Below n) s.words (phase_in s.views) g.line s.trace (tenures (dmcs_queue n) s.trace) (event.Touch r w) g.queue tt);
    }

-- there is one queue
only_queue : {X : Type 0} (d e : X) (q : ℕ) → slice_get (d ∷ []) q ≡ Some e → (q ≡ 0) × (e ≡ d)
only_queue d e zero h = (refl, sym (same_Some _ _ h))
only_queue d e (suc q) h = cc

-- the rank before one that links itself is there
guess_below : (n : ℕ) (s : LockState QueueView) (k : ℕ) (p : Phase) → PlanFits (dmcs_names n) k p → (guess : ℕ) → p ≡ Link guess → guess - 1 < n
guess_below n s k p f guess e =
    let a : (0 < guess) × (guess - 1 < length (every_second 1 n)) = subst (λ z. PhaseFits (length (every_second 1 n)) z) e f.phase in
    subst (λ z. guess - 1 < z) (length-every_second 1 n) a.1

-- a view of a good state meets the condition of queue_plan
pub fits_at : (n : ℕ) (s : LockState QueueView) (r k : ℕ) (p : Phase) → DmcsGood n s → slice_get s.views r ≡ Some (at_phase k p) → PlanFits (dmcs_names n) k p
fits_at n s r k p g has =
    let same : k ≡ r = g.named r (at_phase k p) has in
    let a : length (every_second 2 n) ≡ length (every_second 1 n) = length-every_second 2 n ∙ sym (length-every_second 1 n) in
    subst (λ z. PlanFits (dmcs_names n) z p) (sym same)
    (plan_fits (dmcs_names n) (Below n) s.words (phase_in s.views) g.line s.trace (tenures (dmcs_queue n) s.trace) r p g.queue
    (phase_get s.views r (at_phase k p) has) (rank_below n s r _ g has) a
    (λ x i. subst (λ z. x < z) (sym (length-every_second 1 n)) i))

-- and what its act finds that of queue_learn
pub got_fits_at : (n : ℕ) (s : LockState QueueView) (r k : ℕ) (p : Phase) (a : Act) → n ≤ 32 → DmcsGood n s →
    slice_get s.views r ≡ Some (at_phase k p) → plan_at (dmcs_names n) k p ≡ Some a → GotFits p (told a (slice_index s.words (word_of a)))
got_fits_at n s r k p a few g has pl =
    let same : k ≡ r = g.named r (at_phase k p) has in
    learn_fits (dmcs_names n) (Below n) s.words (phase_in s.views) g.line s.trace (tenures (dmcs_queue n) s.trace) r p a g.queue
    (phase_get s.views r (at_phase k p) has) (subst (λ z. plan_at (dmcs_names n) z p ≡ Some a) same pl)
    (λ x i. omega arith) (λ b e. cc)

-- a rank waits on after a load alone, and stands at a load again
waits_on_at : (n m : ℕ) (p : Phase) (a : Act) (got : ℕ) → plan_at (dmcs_names n) m p ≡ Some a → (dmcs_learn n m p got).waits ≡ true →
    IsLoad a × PlansLoad (plan_at (dmcs_names n) (dmcs_learn n m p got).view.member (dmcs_learn n m p got).view.phase)
waits_on_at n m p a got pl e =
    let t = turn_at (dmcs_names n) m p got in
    let k = waits_on (dmcs_names n) (Below n) m p got (sym (enter_waits m t.phase t.events t.waits) ∙ e) in
    (subst PlansLoad pl k.1, enter_loads (dmcs_names n) m t.phase t.events t.waits (subst (λ z. PlansLoad (plan_at (dmcs_names n) m z)) (sym k.0) k.1))

-- all laws of a lock
pub dmcs_laws : (home : ℕ) (layout : Layout) → Seated layout → home < layout.nodes →
    LockLaws (dmcs_table home layout.node_of) (DmcsGood (length layout.node_of)) no_more layout
dmcs_laws home layout seated homed =
    let n : ℕ = length layout.node_of in
    let T : LockTable QueueView = dmcs_table home layout.node_of in
    let at : (s : LockState QueueView) (r : ℕ) (v : QueueView) → DmcsGood
    (length layout.node_of) s → slice_get s.views r ≡ Some v → slice_get s.views v.member ≡ Some v =
    λ s r v g has. subst (λ z. slice_get s.views z ≡ Some v) (sym (g.named r v has)) has in
    record {
      begins = begins_at home layout.node_of;
      sized = λ s g. (g.all_words, g.all_views, g.all_modes);
      few_words = let few = seated.few in omega arith;
      homes = λ w lt. word_home home layout w seated homed lt;
      lawful = λ s r v a h.
          lawful_at home layout r v.member v.phase a seated homed (fits_at (length layout.node_of) s r v.member v.phase h.is_good h.has)
          (rank_below (length layout.node_of) s v.member v h.is_good (at s r v h.is_good h.has))
          (guess_below (length layout.node_of) s v.member v.phase (fits_at (length layout.node_of) s r v.member v.phase h.is_good h.has))
          (succ_below (length layout.node_of) s v.member v.phase h.is_good (at s r v h.is_good h.has)) h.planned;
      keeps = λ s r v a h.
          subst (λ z. DmcsGood (length layout.node_of) (acted (dmcs_table home layout.node_of) s z v a)) (h.is_good.named r v h.has)
          (act_keeps_at home layout.node_of s v.member v.phase a h.is_good (at s r v h.is_good h.has) h.planned);
      ask_keeps = λ s r v m g has out. ask_keeps_at home layout.node_of s r v.member v.phase m g has out;
      leave_keeps_writer = λ s r v g has st. leave_keeps_at home layout.node_of s r v.member v.phase g has st;
      leave_keeps_reader = λ s r v g has st. absurd (no_reader v.phase st);
      touch_keeps = λ s r w g. touch_keeps_at (length layout.node_of) s r w g;
      excludes = λ s i j v w g hi hj wv hw.
          one_first (dmcs_names (length layout.node_of)) (Below (length layout.node_of)) s.words (phase_in s.views) g.line s.trace
          (tenures (dmcs_queue (length layout.node_of)) s.trace) i j g.queue
          (subst (λ z. IsFirst z (slice_index s.words (status_word (dmcs_names (length layout.node_of)) i)))
          (sym (phase_get s.views i v hi)) (writer_first v.phase _ wv))
          (subst (λ z. IsFirst z (slice_index s.words (status_word (dmcs_names (length layout.node_of)) j)))
          (sym (phase_get s.views j w hj)) (holder_first w.phase _ hw));
      suits = λ s r v m g has asked. suits_at m v.phase;
      first_out = λ r. refl;
      ask_asks = λ v m out. refl;
      leave_leaves = λ v h. leaving_at v.phase h;
      rests = λ s r v g has. rests_at (length layout.node_of) v.member v.phase (g.calm r v has);
      shifts = λ s r v a h.
          subst (λ z. Shift z (standing_of v.phase) (standing_of
          (dmcs_learn (length layout.node_of) v.member v.phase (told a (found s a))).view.phase)
          (holds_only (dmcs_learn (length layout.node_of) v.member v.phase (told a (found s a))).events)) (h.is_good.named r v h.has)
          (act_fits home (length layout.node_of) s v.member v.phase a (told a (found s a)) h.is_good (at s r v h.is_good h.has) h.planned).shift;
      waits_on_loads = λ s r v a h e. waits_on_at (length layout.node_of) v.member v.phase a (told a (found s a)) h.planned e;
      orders = λ s r v a h.
          let ok = act_fits home (length layout.node_of) s v.member v.phase a (told a (found s a)) h.is_good
          (at s r v h.is_good h.has) h.planned in (ok.order, ok.few);
      names = λ s r v a h. (act_fits home (length layout.node_of) s v.member v.phase a (told a (found s a)) h.is_good
          (at s r v h.is_good h.has) h.planned).names;
      within = λ s q B d g has eb.
          let o = only_queue (dmcs_queue (length layout.node_of)) d q has in
          let z : None ≡ Some B = sym (ap (λ y. y.budget) o.1) ∙ eb in cc;
      fifo = λ s q d g has.
          subst (IsFifo s.trace) (sym (only_queue (dmcs_queue (length layout.node_of)) d q has).0)
          (queue_fifo (dmcs_names (length layout.node_of)) (Below (length layout.node_of)) s.words (phase_in s.views) g.line s.trace
          (tenures (dmcs_queue (length layout.node_of)) s.trace) g.queue);
      counted = λ s q d g out has.
          let o = only_queue (dmcs_queue (length layout.node_of)) d q has in
          let k = queue_counted (dmcs_names (length layout.node_of)) (Below (length layout.node_of)) s.words
          (phase_in s.views) g.line s.trace (tenures (dmcs_queue (length layout.node_of)) s.trace) g.queue
          (all_idle s.views (λ r v h. out_idle v.phase (out r v h))) in
          subst (λ z. settled z s.trace + passed z s.trace ≡ tenures d s.trace) (sym o.0)
          (subst (λ z. settled 0 s.trace + passed 0 s.trace ≡ tenures z s.trace) (sym o.1) k);
      goes_further = λ s g. tt;
      finds = λ s r v a one h.
          alone_finds (dmcs_names (length layout.node_of)) (Below (length layout.node_of)) s.words (phase_in s.views) h.is_good.line s.trace
          (tenures (dmcs_queue (length layout.node_of)) s.trace) v.member v.phase a h.is_good.queue
          (λ x i. let b = rank_below (length layout.node_of) s v.member v h.is_good (at s r v h.is_good h.has) in omega arith)
          (phase_get s.views v.member v (at s r v h.is_good h.has)) h.planned;
      moves_on = λ s r v a one h.
          enter_waits v.member _ _ _ ∙
          alone_moves_on (dmcs_names (length layout.node_of)) (Below (length layout.node_of)) v.member v.phase (told a (found s a))
          (subst SuitsAlone (phase_get s.views v.member v (at s r v h.is_good h.has))
          (h.is_good.queue.alone v.member (λ x i. let b = rank_below (length layout.node_of) s v.member v h.is_good
          (at s r v h.is_good h.has) in omega arith)));
    }
