use Rattle.std.proofs.Common.{◌≡◌, ℕ, length, Option, Some}
use Rattle.std.specs.Prelude.{slice_get}
use Rattle.rl_check.specs.QueuesOf.{queue_of}
use Rattle.rl_check.proofs.events.budgets_of.Given as goal

abbrev pub invariant-loop-queue : goal.invariant-loop-queue
invariant-loop-queue l = record {
  each : length l.budgets.items ≡ l.queue;
  budgets : (q : ℕ) (o : Option ℕ) → slice_get l.budgets.items q ≡ Some o → o ≡ (queue_of l.queues q).budget;
}
