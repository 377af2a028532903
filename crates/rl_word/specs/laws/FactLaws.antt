-- A lock has the queues of the lock on which it stands.
use Rattle.std.specs.Prelude.{◌≡◌, refl}
use Rattle.rl_word.specs.declared.locks.LockName.{LockName}
use Rattle.rl_word.specs.declared.locks.LockName.TheVariants.{Spin, Dmcs, Alock, Mcs, Rw, Seq, Combine}
use Rattle.rl_word.specs.LockFacts.{facts_of}

pub same_queues : (name : LockName) → (facts_of (facts_of name).under).queues ≡ (facts_of name).queues
same_queues Spin = refl
same_queues Dmcs = refl
same_queues Alock = refl
same_queues Mcs = refl
same_queues Rw = refl
same_queues Seq = refl
same_queues Combine = refl
