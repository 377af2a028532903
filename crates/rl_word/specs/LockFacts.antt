-- What a lock's name decides: one row for each lock.
use Rattle.std.specs.Prelude.{Bool, true, false}
use Rattle.rl_word.specs.declared.locks.LockName.{LockName}
use Rattle.rl_word.specs.declared.locks.LockName.TheVariants.{Spin, Dmcs, Alock, Mcs, Rw, Seq, Combine}
use Rattle.rl_word.specs.declared.locks.QueueKind.{QueueKind}
use Rattle.rl_word.specs.declared.locks.QueueKind.TheVariants.{NoQueue, OneForAll, TwoCohorts, Elements}
use Rattle.rl_word.specs.declared.locks.LockFacts.{LockFacts}

-- a lock that stands on none: readers are writers, each get is a tenure, and a block may be a batch
abbrev pub plain_facts : LockName → QueueKind → LockFacts
plain_facts name queues = record { under = name; shares = false; spares = false; batches = true; queues = queues }

-- Readers hold a lock beside each other under RMA-RW alone. Optimistic readers and flat combining stand on ALock, which is asked for. A get alone
-- is no tenure of a queue under RMA-RW, where readers are in no queue, and of optimistic readers, which take no lock. In flat combining each call
-- is done by itself. The root of RMA-RW's tree has a budget.
abbrev pub facts_of : LockName → LockFacts
facts_of Spin = plain_facts Spin NoQueue
facts_of Dmcs = plain_facts Dmcs OneForAll
facts_of Alock = plain_facts Alock TwoCohorts
facts_of Mcs = plain_facts Mcs (Elements false)
facts_of Rw = record { under = Rw; shares = true; spares = true; batches = true; queues = Elements true }
facts_of Seq = record { under = Alock; shares = false; spares = true; batches = true; queues = TwoCohorts }
facts_of Combine = record { under = Alock; shares = false; spares = false; batches = false; queues = TwoCohorts }

-- the ranks are in two cohorts
abbrev pub has_cohorts : QueueKind → Bool
has_cohorts NoQueue = false
has_cohorts OneForAll = false
has_cohorts TwoCohorts = true
has_cohorts (Elements root_has_budget) = false
