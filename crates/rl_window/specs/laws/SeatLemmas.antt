-- Lemmas on the seats of a window: views that are changed as the rule allows, ports, and all seats where one goes on.
use Rattle.std.specs.Prelude.{◌≡◌, ℕ, List, [], slice_get, slice_set, Some, refl}
use Rattle.std.proofs.Common.{sym, subst, ap, ◌∙◌, set-set}
use Rattle.atomic_table.specs.Table.{Me}
use Rattle.rl_word.specs.laws.Places.{get_set_same, set_same_get}
use Rattle.rl_step.specs.Do.{TheWindow}
use Rattle.rl_step.specs.Core.{CoreTable, MayBe}
use Rattle.rl_window.specs.declared.knows.Knows.{Knows}
use Rattle.rl_window.specs.declared.knows.Knows.TheVariants.{Rank}
use Rattle.rl_window.specs.declared.window.Window.{Window}
use Rattle.rl_window.specs.declared.window.WinSeat.{WinSeat}
use Rattle.rl_window.specs.Rule.{sized, MayBeAt, MayGetAt, Keeps}
use Rattle.rl_window.specs.Plays.{last_of, steps_of}
use Rattle.rl_window.specs.Seats.{last_view, IsSeatOf, IsKept, table_steps, with_view}
use Rattle.rl_window.specs.Ports.{IsFit}

module _ {V : Type 0} (rule : TheWindow → List V → Type 0) where
  -- some state under the rule has a view that was changed as the rule allows
  pub may_be_on : (size nodes r : ℕ) (v w : V) → MayBeAt (sized rule size nodes) r v → Keeps rule r v w → MayBeAt (sized rule size nodes) r w
  may_be_on size nodes r v w may_be same =
      let m = may_be.0 in
      let has : slice_get m.views r ≡ Some v = subst (λ n. slice_get m.views n ≡ Some v) may_be.1 m.has in
      (record { held = m.held; views = slice_set m.views r w; rank = r; is_ruled = (same m.held m.views m.is_ruled.0 has, m.is_ruled.1, m.is_ruled.2); has = get_set_same m.views r v w has }, refl)

  -- a state with so many words and cards is a state
  pub plain_may_be : (size nodes r : ℕ) (v : V) → MayBeAt (sized rule size nodes) r v → MayBe rule v
  plain_may_be size nodes r v may_be = let m = may_be.0 in record { held = m.held; views = m.views; rank = m.rank; is_ruled = m.is_ruled.0; has = m.has }

  pub plain_may_get : (T : CoreTable V) (size nodes r : ℕ) (v : V) (got : ℕ) → MayGetAt T (sized rule size nodes) r v got → MayGetAt T rule r v got
  plain_may_get T size nodes r v got may =
      let m = may.0 in
      (record { held = m.held; views = m.views; rank = m.rank; atom = m.atom; plans = record { is_ruled = m.plans.is_ruled.0; has = m.plans.has; planned = m.plans.planned }; gives = m.gives }, may.1)

  -- a change that keeps the rule, after another one
  pub keeps_on : (r : ℕ) (u v w : V) → Keeps rule r u v → Keeps rule r v w → Keeps rule r u w
  keeps_on r u v w one two h vs ruled at = subst (rule h) (set-set vs r v w) (two h (slice_set vs r v) (one h vs ruled at) (get_set_same vs r u v at))

  -- no change keeps the rule
  pub keeps_still : (r : ℕ) (v : V) → Keeps rule r v v
  keeps_still r v h vs ruled at = subst (rule h) (sym (set_same_get vs r v at)) ruled

module _ {C V : Type 0} (rule : C → TheWindow → List V → Type 0) (w : Window C V) where
  -- some state under the rule has the seat's view
  pub seat_may_be : (s : WinSeat C V) → IsSeatOf rule w s → IsKept rule w s → MayBeAt (sized (rule w.core) w.size w.nodes) s.rank s.view
  seat_may_be s S kept = may_be_on (rule w.core) w.size w.nodes s.rank (last_view s) s.view S.may_be kept

  -- and the view that a port of the seat shows
  pub port_known : (s : WinSeat C V) (c : C) (v : V) → IsFit rule w s c → v ≡ s.view → MayBe (rule c) v
  port_known s c v F e =
      let l = plain_may_be (rule w.core) w.size w.nodes s.rank s.view (seat_may_be s F.seat F.kept) in
      subst (λ x. MayBe (rule x) v) (sym F.core_is) (subst (MayBe (rule w.core)) (sym e) l)

  -- right after a table step nothing has changed
  pub kept_still : (s : WinSeat C V) → last_view s ≡ s.view → IsKept rule w s
  kept_still s e = subst (λ x. Keeps (rule w.core) s.rank x s.view) (sym e) (keeps_still (rule w.core) s.rank s.view)

  -- the seat stays the window's, and the view in the table stays, where the view between two table steps is changed
  pub reviewed : (s : WinSeat C V) (v : V) → IsSeatOf rule w s → IsSeatOf rule w (with_view s v) × (last_view (with_view s v) ≡ last_view s) × (table_steps (with_view s v) ≡ table_steps s)
  reviewed s v S =
      let e : last_view (with_view s v) ≡ last_view s = ap (λ (m : Me ℕ (Knows C V)). last_of v m.0) S.at in (
        record {
          table = S.table;
          at = S.at ∙ ap (λ x. (Rank (record { core = w.core; size = w.size; nodes = w.nodes; rank = s.rank; view = x; steps = steps_of s.seat.me.0 }), [])) (sym e);
          may_be = subst (MayBeAt (sized (rule w.core) w.size w.nodes) s.rank) (sym e) S.may_be;
        },
        e,
        refl,
      )

  -- and a change that keeps the rule may be made after others
  pub changed : (s : WinSeat C V) (v : V) → IsSeatOf rule w s → IsKept rule w s → Keeps (rule w.core) s.rank s.view v → IsKept rule w (with_view s v)
  changed s v S kept more =
      subst (λ x. Keeps (rule w.core) s.rank x v) (sym (reviewed s v S).1) (keeps_on (rule w.core) s.rank (last_view s) s.view v kept more)

-- what a port that fits says of its seat, wherever the window and the seat are read
pub fit_seat : {C V : Type 0} (rule : C → TheWindow → List V → Type 0) (w w' : Window C V) (s s' : WinSeat C V) (c : C) → IsFit rule w' s' c → w' ≡ w → s' ≡ s → IsSeatOf rule w s
fit_seat rule w w' s s' c F ew es = subst (λ x. IsSeatOf rule x s) ew (subst (IsSeatOf rule w') es F.seat)
