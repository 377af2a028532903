-- What a rank's standing says of its phase.
use Rattle.std.specs.Prelude.{◌≡◌, ℕ, true, false, refl}
use Rattle.rl_word.specs.declared.classes.Mode.{Mode}
use Rattle.rl_step.specs.declared.events.Standing.TheVariants.{Out, Writer, Reader, Leaving}
use Rattle.rl_step.specs.Lock.{IsHolder, Suits}
use Rattle.rl_queue.specs.declared.view.Phase.{Phase}
use Rattle.rl_queue.specs.declared.view.Phase.TheVariants.{Idle, Granted}
use Rattle.rl_queue.specs.Queue.{leave_at}
use Rattle.rl_queue.specs.Lane.{Busy, served, IsFirst}
use Rattle.rl_queue.specs.Standings.{standing_of}

-- nobody stands as a reader; who stands as a writer, or holds the lock, is the first of the queue
pub no_reader : (p : Phase) → standing_of p ≡ Reader → ⊥
no_reader Idle e = cc
no_reader _ e = cc

pub writer_first : (p : Phase) (s : ℕ) → standing_of p ≡ Writer → IsFirst p s
writer_first (Granted left) s e = tt
writer_first _ s e = cc

pub holder_first : (p : Phase) (s : ℕ) → IsHolder (standing_of p) → IsFirst p s
holder_first (Granted left) s h = tt
holder_first _ s h = absurd h

-- a holder that leaves stands so
pub leaving_at : (p : Phase) → IsHolder (standing_of p) → standing_of (leave_at p false) ≡ Leaving
leaving_at (Granted left) h = refl
leaving_at _ h = absurd h

-- a rank that is out is idle
pub out_idle : (p : Phase) → standing_of p ≡ Out → p ≡ Idle
out_idle Idle e = refl
out_idle _ e = cc

-- and one that isn't uses the queue
pub not_out_busy : (p : Phase) → (standing_of p ≡ Out → ⊥) → Busy p
not_out_busy Idle not = absurd (not refl)
not_out_busy _ not = tt

-- whatever mode was asked for suits, since nobody reads
pub suits_at : (m : Mode) (p : Phase) → Suits false m (standing_of p)
suits_at m Idle = tt
suits_at m _ = tt

-- a holder stands as a writer
pub holder_writes : (p : Phase) → IsHolder (standing_of p) → standing_of p ≡ Writer
holder_writes (Granted left) h = refl
holder_writes _ h = absurd h

-- and has been given the queue
pub writer_served : (p : Phase) (status : ℕ) → standing_of p ≡ Writer → served p status ≡ true
writer_served (Granted left) status e = refl
writer_served _ status e = cc
