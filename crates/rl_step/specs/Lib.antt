-- to be believed, in reading order
pub mod Do
pub mod Answers
pub mod EventList
pub mod Traces
pub mod Exclusion
pub mod Queues
pub mod LockQueues
pub mod QueuePromises
pub mod Lock
pub mod Overtaking
pub mod Transitions
pub mod Batches
pub mod Core
pub mod Flat
pub mod FlatAtoms
pub mod laws
