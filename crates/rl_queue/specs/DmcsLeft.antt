-- What is left to do at D-MCS.
use Rattle.std.specs.Prelude.{ℕ, ◌==◌, List, if◌then◌else◌, slice_index}
use Rattle.rl_queue.specs.declared.view.Phase.{Phase}
use Rattle.rl_queue.specs.declared.view.Phase.TheVariants.{Idle, Clear, Reset, Swing, Link, Wait, Settle, Granted, Look, Close, Await, Hand, Above}
use Rattle.rl_queue.specs.declared.view.QueueView.{QueueView}
use Rattle.rl_ending.specs.TwoSums.{two_sums}

-- how many acts a rank has before it, up to where it has the queue or has left it
abbrev pub far : Phase → ℕ
far Idle = 0
far Clear = 6
far Reset = 5
far (Swing guess) = 4
far (Link guess) = 3
far Wait = 2
far Settle = 1
far (Granted left) = 0
far (Look left upper) = 4
far (Close left) = 3
far (Await left) = 2
far (Hand succ left) = 1
far (Above succ) = 0

-- one more where its guess isn't the tail
abbrev pub near : ℕ → Phase → ℕ
near tail (Swing guess) = if tail == guess then 0 else 1
near tail _ = 0

abbrev pub far_of : QueueView → ℕ
far_of v = far v.phase

abbrev pub near_of : List ℕ → QueueView → ℕ
near_of words v = near (slice_index words 0) v.phase

abbrev pub dmcs_left : List ℕ → List QueueView → ℕ
dmcs_left words views = two_sums 1 far_of (near_of words) views
