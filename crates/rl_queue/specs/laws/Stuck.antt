-- A member of a queue that has to wait; and what each act that doesn't wait leads to.
use Rattle.std.specs.Prelude.{◌≡◌, ◌≢◌, ℕ, ◌<◌, Bool, true, Option}
use Rattle.rl_queue.specs.declared.view.Phase.{Phase}
use Rattle.rl_queue.specs.declared.view.Phase.TheVariants.{Idle, Clear, Reset, Swing, Link, Wait, Settle, Granted, Look, Close, Await, Hand, Above}
use Rattle.rl_queue.specs.Lane.{Lane, Busy}

-- a member in this phase, with this next word and this status, is stuck: it was handed nothing, or its follower hasn't linked itself
abbrev pub Stuck : Phase → ℕ → ℕ → Type 0
Stuck Wait next status = status ≡ 0
Stuck (Await left) next status = next ≡ 0
Stuck _ next status = ⊥

-- a member that uses the queue and isn't stuck
pub record Goes (L : Lane) (m : ℕ) : Type 0 where
  pub busy : Busy (L.phase m)
  pub goes : Stuck (L.phase m) (L.next m) (L.status m) → ⊥

-- what the act of a phase tells where it gets the member on: it isn't stuck, and its swing isn't lost
abbrev pub GetsOn : Phase → ℕ → Type 0
GetsOn Idle got = ⊥
GetsOn (Swing guess) got = got ≡ guess
GetsOn Wait got = got ≢ 0
GetsOn Settle got = ⊥
GetsOn (Granted left) got = ⊥
GetsOn (Await left) got = got ≢ 0
GetsOn (Above succ) got = ⊥
GetsOn _ got = Unit {0}

-- numbers of phases that fall with each such act: `far` of the phase that it is made in, `after` of the one that it leads to
pub record Falls (far after : Phase → ℕ) : Type 0 where
  pub clear : after Reset < far Clear
  pub reset : after (Swing 0) < far Reset
  pub swing : (guess : ℕ) → (after Settle < far (Swing guess)) × (after (Link guess) < far (Swing guess))
  pub link : (guess : ℕ) → after Wait < far (Link guess)
  pub wait : (left : ℕ) → (after Settle < far Wait) × (after (Granted left) < far Wait)
  pub look : (left succ : ℕ) (upper : Bool) → (after (Close left) < far (Look left upper)) × (after (Hand succ left) < far (Look left upper))
  pub gives_up : (left : ℕ) (succ : Option ℕ) → after (Above succ) < far (Look left true)
  pub close : (left : ℕ) → (after Idle < far (Close left)) × (after (Await left) < far (Close left))
  pub await : (left succ : ℕ) → after (Hand succ left) < far (Await left)
  pub hand : (succ left : ℕ) → after Idle < far (Hand succ left)
