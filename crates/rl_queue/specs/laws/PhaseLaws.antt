-- What a phase says of its member: one that is served, or first, uses the queue, and one that is served stands in the line.
use Rattle.std.specs.Prelude.{◌≡◌, ℕ, true}
use Rattle.rl_queue.specs.declared.view.Phase.{Phase}
use Rattle.rl_queue.specs.declared.view.Phase.TheVariants.{Idle, Clear, Reset, Swing}
use Rattle.rl_queue.specs.Lane.{Busy, Listed, served, IsFirst}

pub served_busy : (p : Phase) (s : ℕ) → served p s ≡ true → Busy p
served_busy Idle s h = cc
served_busy _ s h = tt

pub served_listed : (p : Phase) (s : ℕ) → served p s ≡ true → Listed p
served_listed Idle s h = cc
served_listed Clear s h = cc
served_listed Reset s h = cc
served_listed (Swing guess) s h = cc
served_listed _ s h = tt

pub first_busy : (p : Phase) (s : ℕ) → IsFirst p s → Busy p
first_busy Idle s h = h
first_busy _ s h = tt
