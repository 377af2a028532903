-- Which members the queues of a shard have; and what its tallies say of them, once no block is open.
use Rattle.std.specs.Prelude.{◌≡◌, ◌<◌, ℕ, true, false, List, length, slice_get, Some}
use Rattle.rl_step.specs.Queues.{QueueOf}
pub use Rattle.rl_journal.specs.Tenures.{is_had_by, settled_if, tenures_of, AreTallied}

-- the members of queues are there: those of a queue of ranks are among so many ranks, and those of a queue of elements have queues of
-- their own
pub record AreMembersThere (queues : List QueueOf) (ranks : ℕ) : Type 0 where
  pub of_ranks : (q m : ℕ) (d : QueueOf) → slice_get queues q ≡ Some d → d.of_ranks ≡ true → d.members m ≡ true → m < ranks
  pub of_elements : (q m : ℕ) (d : QueueOf) → slice_get queues q ≡ Some d → d.of_ranks ≡ false → d.members m ≡ true → m < length queues
