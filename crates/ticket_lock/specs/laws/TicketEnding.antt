-- The ticket lock has no dead end: where somebody waits, somebody has the ticket that is served.
use Rattle.std.specs.Prelude.{◌≡◌, ℕ, ◌+◌, ◌%◌, ◌^◌, ◌<◌, ◌≤◌, slice_get, slice_index, slice_set, sum_by, Some, None, refl}
use Rattle.std.proofs.Common.{lit≤, sym, ◌∙◌, ap, inl, inr, ⊎_elim, arith}
use Rattle.std.proofs.lemmas.Bool.Decides.{eqb_tells}
use Rattle.std.proofs.lemmas.Option.{same_Some}
use Rattle.rl_word.specs.laws.Places.{get_map, get_map_back}
use Rattle.rl_step.specs.declared.events.Standing.TheVariants as standing
use Rattle.rl_step.specs.Lock.{LockState}
use Rattle.rl_ending.specs.Ending.{LockEnds, CanGoOn}
use Rattle.rl_ending.specs.laws.EndingLaws.{all_out_or_not, goes_on_by}
use Rattle.rl_ending.specs.Guiding.{LockGuides}
use Rattle.rl_ending.specs.laws.Sums.{sum_falls, sum_grows}
use Rattle.ticket_lock.specs.declared.view.TicketView.{TicketView}
use Rattle.ticket_lock.specs.declared.view.Phase.{Phase}
use Rattle.ticket_lock.specs.declared.view.Phase.TheVariants.{Out, Drawing, Waiting, Inside, Releasing}
use Rattle.ticket_lock.specs.Ticket.{ticket_table, at_phase, ticket_leave, ticket_standing, ticket_of, TicketGood}
use Rattle.ticket_lock.specs.laws.TicketLaws.{by_look}
use Rattle.ticket_lock.specs.TicketLeft.{acts_in, ticket_left, urgent_in, ticket_urgent}

abbrev acts_of : TicketView → ℕ
acts_of v = acts_in v.phase

-- a rank in this phase needn't wait: it isn't out, and where it waits its ticket is served
abbrev Ready : ℕ → Phase → Type 0
Ready served Out = ⊥
Ready served (Waiting x) = served ≡ x
Ready served _ = Unit {0}

ready_goes : (home : ℕ) (s : LockState TicketView) (r k : ℕ) (p : Phase) → slice_get s.views r ≡ Some (at_phase k p) →
    Ready (slice_index s.words 1) p → CanGoOn (ticket_table home) ticket_left s r
ready_goes home s r k Out has ready = absurd ready
ready_goes home s r k Drawing has ready = record {
  view = _;
  has = has;
  way =
      inr (record { act = _; planned = refl; less = sum_falls acts_of s.views r (at_phase k Drawing) (at_phase k (Waiting _)) has (lit≤ tt) });
}
ready_goes home s r k (Waiting x) has ready =
    goes_on_by _ _ has refl
    (by_look (λ t. sum_by acts_of (slice_set s.views r t.view) < sum_by acts_of s.views) k x (slice_index s.words 1)
    (λ own. sum_falls acts_of s.views r (at_phase k (Waiting x)) (at_phase k (Inside x)) has (lit≤ tt))
    (λ other. absurd (other ready)))
ready_goes home s r k (Inside x) has ready = record { view = _; has = has; way = inl tt }
ready_goes home s r k (Releasing x) has ready = record {
  view = _;
  has = has;
  way =
      inr (record { act = _; planned = refl; less = sum_falls acts_of s.views r (at_phase k (Releasing x)) (at_phase k Out) has (lit≤ tt) });
}

-- who has the ticket that is served needn't wait; and where anybody isn't out, somebody needn't
has_served : (served : ℕ) (p : Phase) → ticket_of p ≡ Some served → Ready served p
has_served served Out e = cc
has_served served Drawing e = tt
has_served served (Waiting x) e = sym (same_Some _ _ e)
has_served served (Inside x) e = tt
has_served served (Releasing x) e = tt

somebody : (n : ℕ) (s : LockState TicketView) (r k : ℕ) (p : Phase) → TicketGood n s.words s.views s.modes →
    slice_get s.views r ≡ Some (at_phase k p) → (ticket_standing p ≡ standing.Out → ⊥) →
    (i : ℕ) × (v : TicketView) × (slice_get s.views i ≡ Some v) × Ready (slice_index s.words 1) v.phase
somebody n s r k Out g has busy = absurd (busy refl)
somebody n s r k (Waiting x) g has busy =
    let d = g.line.due r x (get_map (λ (v : TicketView). ticket_of v.phase) s.views r _ has) in
    let t = g.line.taken 0 (omega (arith, d.since, d.before)) in
    let v = get_map_back (λ (v : TicketView). ticket_of v.phase) s.views t.0 (Some ((g.served + 0) % 2 ^ 64)) t.1 in
    let word : (g.served + 0) % 2 ^ 64 ≡ slice_index s.words 1 = ap (λ y. y % 2 ^ 64) (omega arith) ∙ sym (ap (λ ws. slice_index ws 1) g.two_words) in
    (t.0, v.0, v.1, has_served (slice_index s.words 1) v.0.phase (v.2 ∙ ap Some word))
somebody n s r k p g has busy = (r, at_phase k p, has, tt)

pub ticket_ends : (n home : ℕ) → LockEnds (ticket_table home) ticket_left (λ t. TicketGood n t.words t.views t.modes) 2
ticket_ends n home =
    record {
      somebody = λ s g. ⊎_elim inl (λ b. let i = somebody n s b.0 b.1.view.rank b.1.view.phase g b.1.has b.1.busy in
          inr (i.0, ready_goes home s i.0 i.1.rank i.1.phase i.2 i.3))
          (all_out_or_not (λ (v : TicketView). ticket_standing v.phase) s.views);
      ask_adds = λ s r v m g has out. sum_grows acts_of s.views r 2 v (at_phase v.rank Drawing) has (lit≤ tt);
      leave_adds = λ s r v g has holds. sum_grows acts_of s.views r 2 v (at_phase v.rank (ticket_leave v.phase)) has
          (elim v.phase as (λ p. acts_in (ticket_leave p) ≤ 2) [ Out ↦ lit≤ tt | _ ↦ lit≤ tt ]);
    }

-- who is urgent needn't wait
urgent_ready : (served n : ℕ) (p : Phase) → urgent_in served p ≡ Some n → Ready served p × (n < 8)
urgent_ready served n Out e = cc
urgent_ready served n (Waiting x) e = ⊎_elim (λ q. let own = q.0 in let z : 0 ≡ n = cc in (q.1, omega arith)) (λ q. let other = q.0 in cc) (eqb_tells served x)
urgent_ready served n Drawing e = let z : 0 ≡ n = cc in (tt, omega arith)
urgent_ready served n (Inside x) e = let z : 0 ≡ n = cc in (tt, omega arith)
urgent_ready served n (Releasing x) e = let z : 0 ≡ n = cc in (tt, omega arith)

pub ticket_guides : (n home : ℕ) → LockGuides (ticket_table home) ticket_left (λ t. TicketGood n t.words t.views t.modes) ticket_urgent
ticket_guides n home =
    record {
      few = λ words v k e. (urgent_ready (slice_index words 1) k v.phase e).1;
      goes = λ s r g c. ready_goes home s r c.view.rank c.view.phase c.has (urgent_ready (slice_index s.words 1) c.urgency c.view.phase c.is_urgent).0;
      rest = λ s g none. ⊎_elim (λ out. out) (λ b. let i = somebody n s b.0 b.1.view.rank b.1.view.phase g b.1.has b.1.busy in absurd
          (ready_urgent (slice_index s.words 1) i.1.phase i.3 (none i.0 i.1 i.2)))
          (all_out_or_not (λ (v : TicketView). ticket_standing v.phase) s.views);
    } where
      -- and who needn't wait is urgent
      ready_urgent : (served : ℕ) (p : Phase) → Ready served p → urgent_in served p ≡ None → ⊥
      ready_urgent served Out ready e = absurd ready
      ready_urgent served (Waiting x) ready e = ⊎_elim (λ q. let own = q.0 in cc) (λ q. absurd (q.1 ready)) (eqb_tells served x)
      ready_urgent served _ ready e = cc
