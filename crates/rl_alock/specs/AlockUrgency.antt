-- Who goes on at ALock: who needn't wait in its queue, nor at the entry.
use Rattle.std.specs.Prelude.{ℕ, ◌+◌, ◌==◌, List, if◌then◌else◌, slice_index, Option, Some, None}
use Rattle.rl_queue.specs.declared.view.Phase.{Phase}
use Rattle.rl_queue.specs.declared.view.Phase.TheVariants.{Settle}
use Rattle.rl_queue.specs.Queue.{plan_at}
use Rattle.rl_queue.specs.Urgency.{loaded, urgent_at}
use Rattle.rl_alock.specs.declared.cohort.Cohort.{Cohort}
use Rattle.rl_alock.specs.declared.view.SettleStage.{SettleStage}
use Rattle.rl_alock.specs.declared.view.SettleStage.TheVariants.{Announce, Tail, Victim}
use Rattle.rl_alock.specs.declared.view.AlockView.{AlockView}
use Rattle.rl_alock.specs.Alock.{Cohorts, cohort_of, cohort_no, tail_no, victim_no, other, names_of}

-- A head of a cohort at the entry, where the other queue's tail and the victim word are these. It waits where it is the victim while the
-- other queue isn't empty; but not before it has seen it to be so.
abbrev pub head_urgent : Cohort → SettleStage → ℕ → ℕ → Option ℕ
head_urgent c Announce tail victim = Some 0
head_urgent c Tail tail victim = if tail == 0 then Some 0 else if victim == cohort_no c then None else Some 0
head_urgent c Victim tail victim = Some 0

-- by the words of the lock, which stand in a window from base on
abbrev pub head_urgent_in : List ℕ → ℕ → Cohort → SettleStage → Option ℕ
head_urgent_in words base c st = head_urgent c st (slice_index words (base + tail_no (other c))) (slice_index words (base + victim_no))

-- rank m
abbrev pub rank_urgent : Cohorts → List ℕ → ℕ → Phase → SettleStage → Option ℕ
rank_urgent K words m Settle st = head_urgent (cohort_of K m) st (slice_index words (tail_no (other (cohort_of K m)))) (slice_index words victim_no)
rank_urgent K words m p st = urgent_at p (loaded words (plan_at (names_of K (cohort_of K m)) m p))

abbrev pub alock_urgent : Cohorts → List ℕ → AlockView → Option ℕ
alock_urgent K words v = rank_urgent K words v.queue.member v.queue.phase v.entry
