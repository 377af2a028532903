use Rattle.std.proofs.Common.{◌≡◌, ℕ, ◌+◌, ◌<◌, ◌≤◌, Some}
use Rattle.std.specs.Prelude.{slice_get}
use Rattle.rl_model.specs.declared.entry.Entry.{Entry}
use Rattle.rl_check.specs.Entries.{GoesOnInBatch}
use Rattle.rl_check.proofs.blocks.is_whole_batch.Given as goal

abbrev pub invariant-loop-place : goal.invariant-loop-place
invariant-loop-place l =
    (k : ℕ) (d e : Entry) → l.start ≤ k → k + 1 < l.place → slice_get l.entries k ≡ Some d → slice_get l.entries (k + 1) ≡ Some e → GoesOnInBatch d e
