-- Where somebody uses a queue, somebody goes on: the first of its line, or the second, which links itself; or one that isn't in it yet.
use Rattle.std.specs.Prelude.{◌≡◌, ◌≢◌, ℕ, zero, suc, ◌+◌, ◌<◌, List, [], ◌∷◌, Option, Some, None, refl}
use Rattle.std.proofs.Common.{sym, subst, arith}
use Rattle.rl_queue.specs.declared.view.Phase.{Phase}
use Rattle.rl_queue.specs.declared.view.Phase.TheVariants.{Idle, Clear, Reset, Swing, Link, Wait, Settle, Granted, Look, Close, Await, Hand, Above}
use Rattle.rl_queue.specs.Lane.{Awaits, Lane, Line, Leads, Follows, IsCode, Listed, Busy, Has, QueueInvariant}
use Rattle.rl_queue.specs.laws.Stuck.{Stuck, Goes}

module _ (B : Option ℕ) (In : ℕ → Type 0) (L : Lane) where
  -- a member that goes on, by its phase
  goes_at : (m : ℕ) (p : Phase) → L.phase m ≡ p → Busy p → (Stuck p (L.next m) (L.status m) → ⊥) → Goes L m
  goes_at m p e b free = record { busy = subst Busy (sym e) b; goes = λ k. free (subst (λ q. Stuck q (L.next m) (L.status m)) e k) }

  code_is : (C : Option ℕ) (s : ℕ) → IsCode C s → s ≡ 0 → ⊥
  code_is None s c e = absurd (omega (arith, c, e))
  code_is (Some b) s c e = let a : 0 < s = c.0 in absurd (omega arith)

  -- the second of a line stands at its link while the first has no next word
  second_goes : (h m : ℕ) (q : Phase) → L.phase m ≡ q → Follows q h (L.next h) m → L.next h ≡ 0 → Goes L m
  second_goes h m (Link g) e f none = goes_at m (Link g) e tt (λ k. k)
  second_goes h m Wait e f none = absurd (omega (arith, f, none))
  second_goes h m Idle e f none = absurd f
  second_goes h m Clear e f none = absurd f
  second_goes h m Reset e f none = absurd f
  second_goes h m (Swing g) e f none = absurd f
  second_goes h m Settle e f none = absurd f
  second_goes h m (Granted left) e f none = absurd f
  second_goes h m (Look left upper) e f none = absurd f
  second_goes h m (Close left) e f none = absurd f
  second_goes h m (Await left) e f none = absurd f
  second_goes h m (Hand succ left) e f none = absurd f
  second_goes h m (Above succ) e f none = absurd f

  awaiting_goes : (h left x : ℕ) (r : List ℕ) → L.phase h ≡ Await left → Line B L (h ∷ r) → L.tail ≢ h + 1 → L.next h ≡ x → (m : ℕ) × Goes L m
  awaiting_goes h left (suc x) r e line more next = (h, goes_at h (Await left) e tt (λ k. absurd (omega (arith, k, next))))
  awaiting_goes h left zero [] e line more next = absurd (more line.2)
  awaiting_goes h left zero (m ∷ r) e line more next = (m, second_goes h m (L.phase m) refl line.1.1 next)

  first_goes : (h : ℕ) (r : List ℕ) (p : Phase) → L.phase h ≡ p → Line B L (h ∷ r) → (Awaits (L.phase h) → L.tail ≢ h + 1) → (m : ℕ) × Goes L m
  first_goes h r Wait e line more = (h, goes_at h Wait e tt (λ k. code_is B (L.status h) (subst (λ q. Leads B q (L.status h)) e line.0) k))
  first_goes h r (Await left) e line more = awaiting_goes h left (L.next h) r e line (more (subst Awaits (sym e) tt)) refl
  first_goes h r Idle e line more = absurd (subst (λ q. Leads B q (L.status h)) e line.0)
  first_goes h r Clear e line more = (h, goes_at h Clear e tt (λ k. k))
  first_goes h r Reset e line more = (h, goes_at h Reset e tt (λ k. k))
  first_goes h r (Swing g) e line more = (h, goes_at h (Swing g) e tt (λ k. k))
  first_goes h r (Link g) e line more = (h, goes_at h (Link g) e tt (λ k. k))
  first_goes h r Settle e line more = (h, goes_at h Settle e tt (λ k. k))
  first_goes h r (Granted left) e line more = (h, goes_at h (Granted left) e tt (λ k. k))
  first_goes h r (Look left upper) e line more = (h, goes_at h (Look left upper) e tt (λ k. k))
  first_goes h r (Close left) e line more = (h, goes_at h (Close left) e tt (λ k. k))
  first_goes h r (Hand succ left) e line more = (h, goes_at h (Hand succ left) e tt (λ k. k))
  first_goes h r (Above succ) e line more = (h, goes_at h (Above succ) e tt (λ k. k))

  -- a line that isn't empty has somebody who goes on
  line_goes : (l : List ℕ) (m : ℕ) → Has m l → Line B L l → ((k : ℕ) → Awaits (L.phase k) → L.tail ≢ k + 1) → (k : ℕ) × Goes L k
  line_goes [] m has line more = absurd has
  line_goes (h ∷ r) m has line more = first_goes h r (L.phase h) refl line (more h)

  pub busy_goes : (l : List ℕ) (m : ℕ) (p : Phase) → QueueInvariant B In L l → ((k : ℕ) → Awaits (L.phase k) → L.tail ≢ k + 1) →
      L.phase m ≡ p → Busy p → (k : ℕ) × Goes L k
  busy_goes l m Idle g more e busy = absurd busy
  busy_goes l m Clear g more e busy = (m, goes_at m Clear e tt (λ k. k))
  busy_goes l m Reset g more e busy = (m, goes_at m Reset e tt (λ k. k))
  busy_goes l m (Swing guess) g more e busy = (m, goes_at m (Swing guess) e tt (λ k. k))
  busy_goes l m (Link guess) g more e busy = line_goes l m (g.listed m (subst Listed (sym e) tt)) g.line more
  busy_goes l m Wait g more e busy = line_goes l m (g.listed m (subst Listed (sym e) tt)) g.line more
  busy_goes l m Settle g more e busy = line_goes l m (g.listed m (subst Listed (sym e) tt)) g.line more
  busy_goes l m (Granted left) g more e busy = line_goes l m (g.listed m (subst Listed (sym e) tt)) g.line more
  busy_goes l m (Look left upper) g more e busy = line_goes l m (g.listed m (subst Listed (sym e) tt)) g.line more
  busy_goes l m (Close left) g more e busy = line_goes l m (g.listed m (subst Listed (sym e) tt)) g.line more
  busy_goes l m (Await left) g more e busy = line_goes l m (g.listed m (subst Listed (sym e) tt)) g.line more
  busy_goes l m (Hand succ left) g more e busy = line_goes l m (g.listed m (subst Listed (sym e) tt)) g.line more
  busy_goes l m (Above succ) g more e busy = line_goes l m (g.listed m (subst Listed (sym e) tt)) g.line more
