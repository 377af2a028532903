-- D-MCS says who goes on.
use Rattle.std.specs.Prelude.{◌≡◌, ℕ, ◌<◌, List, length, slice_get, slice_index, Some, None}
use Rattle.std.proofs.Common.{sym, ◌∙◌, ap, subst, ⊎_elim, arith}
use Rattle.rl_word.specs.laws.Places.{some_at}
use Rattle.rl_step.specs.Lock.{LockState, AllOut}
use Rattle.rl_queue.specs.declared.view.QueueView.{QueueView}
use Rattle.rl_queue.specs.Lane.{lane_of, Busy}
use Rattle.rl_queue.specs.Queue.{at_phase, queue_next_word, plan_at, status_word}
use Rattle.rl_queue.specs.Standings.{standing_of}
use Rattle.rl_queue.specs.laws.StandingLaws.{not_out_busy}
use Rattle.rl_queue.specs.Dmcs.{dmcs_names, dmcs_table, phase_in, Below, DmcsGood}
use Rattle.rl_queue.specs.laws.DmcsPhases.{phase_get}
use Rattle.rl_queue.specs.DmcsLeft.{dmcs_left}
use Rattle.rl_queue.specs.DmcsUrgency.{dmcs_urgent}
use Rattle.rl_queue.specs.laws.DmcsEnding.{goes_by}
use Rattle.rl_queue.specs.laws.LineGoes.{busy_goes}
use Rattle.rl_queue.specs.laws.Stuck.{Stuck, Goes}
use Rattle.rl_queue.specs.Urgency.{loaded, urgent_at}
use Rattle.rl_queue.specs.laws.UrgencyLaws.{few_at, urgent_busy, urgent_free, free_urgent}
use Rattle.rl_ending.specs.Ending.{CanGoOn}
use Rattle.rl_ending.specs.laws.EndingLaws.{all_out_or_not}
use Rattle.rl_ending.specs.Guiding.{IsChosen, LockGuides, NoneUrgent}

module _ (home : ℕ) (node_of : List ℕ) where
  -- the rank that is chosen goes on, as all do that are urgent
  chosen_goes : (s : LockState QueueView) (r : ℕ) → DmcsGood (length node_of) s →
      IsChosen (dmcs_urgent (length node_of) s.words) s.views r → CanGoOn (dmcs_table home node_of) dmcs_left s r
  chosen_goes s r g c =
      let v = c.view in
      let same : v.member ≡ r = g.named r v c.has in
      let has : slice_get s.views r ≡ Some (at_phase r v.phase) = c.has ∙ ap (λ i. Some (at_phase i v.phase)) same in
      let urgent : urgent_at v.phase (loaded s.words (plan_at (dmcs_names (length node_of)) r v.phase)) ≡ Some c.urgency =
      subst (λ i. urgent_at v.phase (loaded s.words (plan_at (dmcs_names (length node_of)) i v.phase)) ≡ Some c.urgency) same c.is_urgent in
      goes_by home node_of s r v.phase has (urgent_busy (dmcs_names (length node_of)) s.words r v.phase c.urgency urgent) (g.calm r v c.has)
      (urgent_free (dmcs_names (length node_of)) s.words r v.phase c.urgency urgent)

  -- a member that goes on is an urgent rank
  not_urgent : (s : LockState QueueView) (m : ℕ) → DmcsGood (length node_of) s →
      Goes (lane_of (dmcs_names (length node_of)) s.words (phase_in s.views)) m →
      NoneUrgent (dmcs_urgent (length node_of) s.words) s.views → ⊥
  not_urgent s m g k none =
      let lt : m < length node_of = g.queue.inv.inside m k.busy in
      let all : length s.views ≡ length node_of = g.all_views in
      let there : m < length s.views = omega arith in
      let v = some_at s.views m there in
      let at : phase_in s.views m ≡ v.0.phase = phase_get s.views m v.0 v.1 in
      free_urgent (dmcs_names (length node_of)) s.words m v.0.phase (subst Busy at k.busy)
      (λ z. k.goes (subst (λ p. Stuck p (slice_index s.words (queue_next_word (dmcs_names (length node_of)) m))
      (slice_index s.words (status_word (dmcs_names (length node_of)) m))) (sym at) z))
      (subst (λ i. urgent_at v.0.phase (loaded s.words (plan_at (dmcs_names (length node_of)) i v.0.phase)) ≡ None) (g.named m v.0 v.1) (none m v.0 v.1))

  all_rest : (s : LockState QueueView) → DmcsGood (length node_of) s → NoneUrgent (dmcs_urgent (length node_of) s.words) s.views →
      AllOut (dmcs_table home node_of) s
  all_rest s g none =
      ⊎_elim (λ out. out)
      (λ b.
      let busy : Busy b.1.view.phase = not_out_busy b.1.view.phase b.1.busy in
      let k = busy_goes None (Below (length node_of)) (lane_of (dmcs_names (length node_of)) s.words (phase_in s.views)) g.line b.0
      b.1.view.phase g.queue.inv g.queue.awaited (phase_get s.views b.0 b.1.view b.1.has) busy in
      absurd (not_urgent s k.0 g k.1 none))
      (all_out_or_not (λ (v : QueueView). standing_of v.phase) s.views)

  pub dmcs_guides : LockGuides (dmcs_table home node_of) dmcs_left (DmcsGood (length node_of)) (dmcs_urgent (length node_of))
  dmcs_guides =
      record {
        few = λ words v n e. few_at v.phase (loaded words (plan_at (dmcs_names (length node_of)) v.member v.phase)) n e;
        goes = λ s r g c. chosen_goes s r g c;
        rest = λ s g none. all_rest s g none;
      }
