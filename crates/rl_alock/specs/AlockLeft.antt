-- What is left to do at ALock.
use Rattle.std.specs.Prelude.{ℕ, ◌==◌, List, if◌then◌else◌, slice_index}
use Rattle.rl_queue.specs.declared.view.Phase.{Phase}
use Rattle.rl_queue.specs.declared.view.Phase.TheVariants.{Idle, Clear, Reset, Swing, Link, Wait, Settle, Granted, Look, Close, Await, Hand, Above}
use Rattle.rl_alock.specs.declared.cohort.Cohort.{Cohort}
use Rattle.rl_alock.specs.declared.view.SettleStage.{SettleStage}
use Rattle.rl_alock.specs.declared.view.SettleStage.TheVariants.{Announce, Tail, Victim}
use Rattle.rl_alock.specs.declared.view.AlockView.{AlockView}
use Rattle.rl_alock.specs.Alock.{Cohorts, cohort_of, cohort_no, tail_no, victim_no}
use Rattle.rl_ending.specs.TwoSums.{two_sums}

-- how many acts a rank has before it, up to where it has the lock or has left it
abbrev pub far : Phase → SettleStage → ℕ
far Idle st = 0
far Clear st = 7
far Reset st = 6
far (Swing guess) st = 5
far (Link guess) st = 4
far Wait st = 3
far Settle Announce = 2
far Settle Tail = 1
far Settle Victim = 1
far (Granted left) st = 0
far (Look left upper) st = 4
far (Close left) st = 3
far (Await left) st = 2
far (Hand succ left) st = 1
far (Above succ) st = 0

-- Small change: a guess that isn't the tail; and in the entry, a head that is the victim looks at the victim word, then at the other's
-- tail, and again at the victim word once the other is the victim.
abbrev pub near : ℕ → ℕ → Cohort → Phase → SettleStage → ℕ
near tail victim c (Swing guess) st = if tail == guess then 0 else 1
near tail victim c Settle Announce = 0
near tail victim c Settle Tail = 2
near tail victim c Settle Victim = if victim == cohort_no c then 3 else 1
near tail victim c p st = 0

abbrev pub far_of : AlockView → ℕ
far_of v = far v.queue.phase v.entry

abbrev pub near_of : Cohorts → List ℕ → AlockView → ℕ
near_of K words v = near (slice_index words (tail_no (cohort_of K v.queue.member))) (slice_index words victim_no)
    (cohort_of K v.queue.member) v.queue.phase v.entry

abbrev pub alock_left : Cohorts → List ℕ → List AlockView → ℕ
alock_left K words views = two_sums 3 far_of (near_of K words) views
