-- Where the lock does no batches none is among the calls.
use Rattle.std.proofs.Common.{◌≡◌, ◌≤◌, ℕ, Bool, false, [], get_or, sym, ◌∙◌}
use Rattle.std.specs.Prelude.{slice_index}
use Rattle.rl_step.specs.LockQueues.{does_batches}
use Rattle.rl_place.specs.LockWords.{name_of}
use Rattle.rl_place.specs.Places.{ThePlace}
use Rattle.rl_ops.specs.declared.ops.Ops.{Ops}
use Rattle.rl_ops.proofs.BatchLaws.{all_alone}
use Rattle.rl_inputs.specs.Reading.{SuitsLock}

pub sizes_suit : (place : ThePlace) (ops : Ops) (batches : Bool) → batches ≡ does_batches (name_of place.lock) → SuitsLock place ops → batches ≡ false → (k i : ℕ) → slice_index (get_or ops.sizes k []) i ≤ 1
sizes_suit place ops batches as_named suits none = all_alone ops (suits (sym as_named ∙ none))
