-- What a table step leaves of a seat, and what its port says of it.
use Rattle.std.proofs.Common.{◌≡◌, ℕ, ◌+◌, List, [], None, sym, ap, ◌∙◌, subst}
use Rattle.atomic_table.specs.Table.{Me}
use Rattle.atomic_table.specs.declared.shared.Seat.{Seat}
use Rattle.rl_word.specs.declared.acts.Atom.{Atom}
use Rattle.rl_step.specs.declared.events.Event.{Event}
use Rattle.rl_step.specs.declared.events.Stepped.{Stepped}
use Rattle.rl_step.specs.Do.{TheWindow}
use Rattle.rl_step.specs.Core.{CoreTable, Performs}
use Rattle.rl_window.specs.declared.knows.Knows.{Knows}
use Rattle.rl_window.specs.declared.knows.Knows.TheVariants.{Rank}
use Rattle.rl_window.specs.declared.window.Window.{Window}
use Rattle.rl_window.specs.declared.window.WinSeat.{WinSeat}
use Rattle.rl_window.specs.Rule.{sized, MayBeAt, MayGetAt}
use Rattle.rl_window.specs.Plays.{Moves, IsRankAt, rank_knows, last_of, steps_of}
use Rattle.rl_window.specs.Seats.{IsSeatOf}
use Rattle.rl_window.specs.laws.SeatLemmas.{plain_may_get}

module _ {C V : Type 0} (rule : C → TheWindow → List V → Type 0) (table : C → CoreTable V) where
  -- what a step tells, where the seat is a rank's
  abbrev pub RankMoves : C → ℕ → ℕ → ℕ → V → ℕ → ℕ → Knows C V → Type 0
  RankMoves core size nodes rank v got steps k =
      MayGetAt (table core) (sized (rule core) size nodes) rank v got × MayBeAt (sized (rule core) size nodes) rank ((table core).after v got).view
      × (k ≡ Rank (record { core = core; size = size; nodes = nodes; rank = rank; view = ((table core).after v got).view; steps = steps + 1 }))

  pub moved_at : (core : C) (size nodes rank : ℕ) (v u : V) (got : ℕ) (me : Me ℕ (Knows C V)) (k : Knows C V) → IsRankAt core size nodes rank v me → Moves rule table u got me.0 k →
      RankMoves core size nodes rank u got (steps_of me.0) k
  moved_at core size nodes rank v u got me k at moves = subst (λ (x : Knows C V). Moves rule table u got x k) (ap (λ (m : Me ℕ (Knows C V)). m.0) at) moves

  pub made_seat : (w : Window C V) (s : WinSeat C V) (seat' : Seat ℕ (Knows C V)) (v' : V) (got : ℕ) → IsSeatOf rule w s → seat'.table_id ≡ s.seat.table_id → seat'.me.1 ≡ [] →
      Moves rule table s.view got s.seat.me.0 seat'.me.0 → IsSeatOf rule w (record { seat = seat'; view = v'; rank = s.rank })
  made_seat w s seat' v' got S t none moves =
      let m = moved_at w.core w.size w.nodes s.rank s.view s.view got s.seat.me seat'.me.0 S.at moves in
      let e = m.2 in
      let same : seat'.me.0 ≡ rank_knows w.core w.size w.nodes s.rank v' seat'.me.0 = e ∙ sym (ap (rank_knows w.core w.size w.nodes s.rank v') e) in
      record {
        table = t ∙ S.table;
        at = λ j. (same j, none j);
        may_be = subst (MayBeAt (sized (rule w.core) w.size w.nodes) s.rank) (sym (ap (last_of v') e)) m.1;
      }

  pub made_performs : (w : Window C V) (s : WinSeat C V) (core : C) (k : Knows C V) (got : ℕ) (a : Atom) (v' : V) (events : List Event) (stepped : Stepped) → core ≡ w.core → IsSeatOf rule w s →
      Moves rule table s.view got s.seat.me.0 k → v' ≡ ((table core).after s.view got).view → events ≡ ((table core).after s.view got).events → stepped ≡ ((table core).after s.view got).stepped →
      Performs (table core) (rule core) s.rank a s.view v' None None events stepped
  made_performs w s core k got a v' events stepped is S moves ev ee es =
      let m = moved_at w.core w.size w.nodes s.rank s.view s.view got s.seat.me k S.at moves in
      let may : MayGetAt (table core) (rule core) s.rank s.view got = subst (λ (c : C). MayGetAt (table c) (rule c) s.rank s.view got) (sym is) (plain_may_get (rule w.core) (table w.core) w.size w.nodes s.rank s.view got m.0) in
      record {
        got = got;
        may_get = may.0;
        same_rank = may.1;
        view = ev;
        answer = record { same_events = ee; same_answer = es };
        told = λ h e. absurd (cc);
      }
