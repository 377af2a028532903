-- What the rule tells of a seat, and what its calls change.
use Rattle.std.specs.Prelude.{◌≡◌, ℕ, List, length, slice_get, Option, Some, None, refl}
use Rattle.std.proofs.Common.{sym, ◌∙◌, ap, subst, inl}
use Rattle.rl_word.specs.declared.acts.Atom.{Atom}
use Rattle.rl_model.specs.declared.call.Call.{Call}
use Rattle.rl_step.specs.declared.events.Event.{Event}
use Rattle.rl_step.specs.declared.events.Stepped.{Stepped}
use Rattle.rl_step.specs.declared.events.Stepped.TheVariants.{Finished}
use Rattle.rl_step.specs.Do.{TheWindow}
use Rattle.rl_step.specs.Core.{Performs}
use Rattle.rl_core.specs.Desks.{Desk, IsDesk, OpensBlock, Turns}
use Rattle.rl_core.specs.Answering.{AnswersTo, AnswersNext}
use Rattle.rl_core.specs.Standings.{IsUnhindered}
use Rattle.rl_core.specs.ShardTables.{ShardTable}
use Rattle.rl_core.specs.Moments.{Moment, CoreSays}
use Rattle.rl_core.specs.ShardLaws.{LawsOf, ShardCoreLaws, IsSeated, IsDeskOf, MayOpen}
use Rattle.rl_window.specs.declared.window.Window.{Window}
use Rattle.rl_window.specs.declared.window.WinSeat.{WinSeat}
use Rattle.rl_window.specs.Rule.{Keeps}
use Rattle.rl_window.specs.Seats.{IsSeatOf, IsKept, with_view, core_of, view_of, seat_rank}
use Rattle.rl_window.specs.laws.SeatLemmas.{changed, seat_may_be}
use Rattle.rl_shard.specs.declared.shard.Shard.{Shard}
use Rattle.rl_shard.specs.declared.seat.Seat.{Seat}
use Rattle.rl_shard.specs.declared.counting.Counting.{Counting}
use Rattle.rl_shard.specs.declared.counting.CountedView.{CountedView}
use Rattle.rl_shard.specs.Counting.{whole_of, counted_table, counting_rule, CountGood}
use Rattle.rl_shard.specs.laws.CountingLaws.{moment_of, seated, next_there, open_counts}
use Rattle.rl_shard.specs.Shards.{IsOf, IsClosed, core_at, says_at, table_at, counted_at, view_at, rank_at, desk_at, next_at}
use Rattle.rl_shard.specs.Steps.{HasCause, CauseAt}

-- nothing goes on where nothing changes
pub stays : (shard rank : ℕ) (d e : Desk) → e ≡ d → Turns shard rank d e
stays shard rank d e is =
    record {
      opens_none = λ shut. ap (λ (z : Desk). z.is_open) is ∙ shut;
      way = inl (record {
        same_calls = ap (λ (z : Desk). z.calls) is;
        same_seq = ap (λ (z : Desk). z.seq) is;
        same_kept = ap (λ (z : Desk). z.kept) is;
        same_owes = ap (λ (z : Desk). z.owes) is;
      });
    }

module _ {V : Type 0} (S : CoreSays V) (laws : ShardCoreLaws S) where
  -- the rank made this atom
  abbrev Made : ℕ → Atom → CountedView V → CountedView V → List Event → Stepped → Type 0
  Made r at x y events answer = Performs (counted_table S.table.core) (CountGood S) r at x y None None events answer

  -- an atom of the rank turns its desk, and is answered with a cause
  pub performs_turns : (r : ℕ) (at : Atom) (x y : CountedView V) (events : List Event) (answer : Stepped) → Made r at x y events answer →
      Turns S.table.site.shard r (S.table.own x.whole) (S.table.own y.whole)
  performs_turns r at x y events answer p =
      let T : ShardTable V = S.table in
      let m = p.may_get in
      let g = m.plans.is_ruled in
      let turned = laws.turns_own (moment_of S m.held m.views g) m.rank x.whole m.atom (next_there S m.held m.views m.rank x m.atom g m.plans.has m.plans.planned) in
      subst (λ n. Turns T.site.shard n (T.own x.whole) (T.own y.whole)) p.same_rank
      (subst (λ z. Turns T.site.shard m.rank (T.own x.whole) (T.own z)) (ap (λ n. (T.core.after x.whole n).view) (sym m.gives) ∙ sym (ap whole_of p.view)) turned)

  pub performs_cause : (r : ℕ) (at : Atom) (x y : CountedView V) (events : List Event) (answer : Stepped) → Made r at x y events answer → HasCause S r x answer
  performs_cause r at x y events answer p =
      let m = p.may_get in
      let g = m.plans.is_ruled in
      let next = next_there S m.held m.views m.rank x m.atom g m.plans.has m.plans.planned in
      let why = laws.causes (moment_of S m.held m.views g) m.rank x.whole m.atom next in
      let says = laws.answers (moment_of S m.held m.views g) m.rank x.whole m.atom next in
      let same = ap (λ n. (S.table.core.after x.whole n).stepped) (sym m.gives) ∙ sym p.answer.same_answer in
      record {
        held = m.held;
        views = m.views;
        is_ruled = g;
        has = subst (λ n. slice_get m.views n ≡ Some x) p.same_rank m.plans.has;
        is_cause = subst (λ o. S.cause m.held x.whole o answer) (sym m.plans.planned) (subst (S.cause m.held x.whole (Some m.atom)) same why);
        tells = subst (λ o. AnswersNext m.held o answer) (sym m.plans.planned) (subst (AnswersTo m.held m.atom) same says);
      }

  -- nobody is in the way of a rank that is alone
  pub alone : length S.layout.node_of ≡ 1 → (r : ℕ) (x : CountedView V) (answer : Stepped) → HasCause S r x answer → IsUnhindered answer
  alone one r x answer w = laws.unhindered (moment_of S w.held w.views w.is_ruled) r x.whole answer one (seated S w.held w.views r x w.is_ruled w.has) w.is_cause

-- whether there is a next atom or not
pub by_cases : (o : Option Atom) (P : Type 0) → (o ≡ None → P) → ((at : Atom) → o ≡ Some at → P) → P
by_cases None P none some = none refl
by_cases (Some at) P none some = some at refl

module _ {C V : Type 0} (says : C → CoreSays V) (laws : LawsOf says) where
  pub begun : (w : Window (Counting C V) (CountedView V)) (s : WinSeat (Counting C V) (CountedView V)) (v : CountedView V) (calls : List Call) (seq : ℕ) →
      IsSeatOf (counting_rule says) w s → IsKept (counting_rule says) w s → MayOpen (says (core_of w).whole).table (seat_rank s) (view_of s).whole calls seq →
      v ≡ record (view_of s) { whole = (says (core_of w).whole).table.opened calls seq (view_of s).whole } → IsKept (counting_rule says) w (with_view s v)
  begun w s v calls seq S K may is =
      changed (counting_rule says) w s v S K
      (subst (Keeps (counting_rule says (core_of w)) (seat_rank s) (view_of s)) (sym is) (open_on (core_of w) (seat_rank s) (view_of s) calls seq may))
    where
      -- a block that is opened keeps the rule, whatever the words and the other views are
      open_on : (c : Counting C V) (r : ℕ) (x : CountedView V) (calls : List Call) (seq : ℕ) → MayOpen (says c.whole).table r x.whole calls seq →
          Keeps (counting_rule says c) r x (record x { whole = (says c.whole).table.opened calls seq x.whole })
      open_on c r x calls seq may h vs g has = open_counts (says c.whole) (laws c.whole) h vs r x calls seq g has may

  module _ (shard : Shard C V) (s : Seat C V) (is : IsOf says shard s) where
    -- some state under the rule has the seat's view at its rank
    pub record SeenState : Type 0 where
      pub held : TheWindow
      pub views : List (CountedView V)
      pub is_ruled : CountGood (says_at says shard) held views
      pub has : slice_get views (rank_at s) ≡ Some (counted_at s)

    pub seen : SeenState
    seen =
        let at = seat_may_be (counting_rule says) shard.window s.seat is.seat is.kept in
        record { held = at.0.held; views = at.0.views; is_ruled = at.0.is_ruled.0; has = subst (λ n. slice_get at.0.views n ≡ Some (counted_at s)) at.1 at.0.has }

    -- the moment of such a state, at which the rank has its view
    pub record SeenMoment : Type 0 where
      pub moment : Moment V
      pub is_seated : IsSeated (says_at says shard) moment (rank_at s) (view_at s)

    pub seen_moment : SeenMoment
    seen_moment =
        let q = seen in
        record {
          moment = moment_of (says_at says shard) q.held q.views q.is_ruled;
          is_seated = seated (says_at says shard) q.held q.views (rank_at s) (counted_at s) q.is_ruled q.has;
        }

    abbrev the_laws : ShardCoreLaws (says_at says shard)
    the_laws = laws (core_at shard)

    seat_desk : IsDeskOf (table_at says shard).site (rank_at s) (desk_at says shard s)
    seat_desk = let q = seen_moment in the_laws.own_desk q.moment (rank_at s) (view_at s) q.is_seated

    -- what holds of each desk holds of its rank's
    pub seat_fine : IsDesk (desk_at says shard s)
    seat_fine = let d = seat_desk in record { in_order = d.own.in_order; owing = d.owing }

    -- no block of it is open where it has no next atom, and the other way round
    pub seat_shut : next_at says shard s ≡ None → IsClosed says shard s
    seat_shut = let q = seen_moment in (the_laws.open_is q.moment (rank_at s) (view_at s) q.is_seated).0

    pub seat_rests : IsClosed says shard s → next_at says shard s ≡ None
    seat_rests = let q = seen_moment in (the_laws.open_is q.moment (rank_at s) (view_at s) q.is_seated).1

    -- a block is opened at the desk of a seat at which none is open
    pub seat_opens : (t : Seat C V) (calls : List Call) (seq : ℕ) → MayOpen (table_at says shard) (rank_at s) (view_at s) calls seq →
        view_at t ≡ (table_at says shard).opened calls seq (view_at s) → OpensBlock calls seq (desk_at says shard s) (desk_at says shard t)
    seat_opens t calls seq may e =
        let q = seen_moment in
        subst (λ z. OpensBlock calls seq (desk_at says shard s) ((table_at says shard).own z)) (sym e) (the_laws.opens_own q.moment (rank_at s) (view_at s) calls seq q.is_seated may)

    -- a step that makes no atom has its cause too
    pub no_cause : next_at says shard s ≡ None → CauseAt says shard s Finished
    no_cause e =
        let q = seen in
        record {
          held = q.held;
          views = q.views;
          is_ruled = q.is_ruled;
          has = q.has;
          is_cause = subst (λ o. (says_at says shard).cause q.held (view_at s) o Finished) (sym e) (the_laws.rests q.held (view_at s));
          tells = subst (λ o. AnswersNext q.held o Finished) (sym e) refl;
        }
