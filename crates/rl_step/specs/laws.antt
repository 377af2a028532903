pub mod ExclusionLaws
pub mod QueueLemmas
pub mod LockLemmas
pub mod OvertakingLaws
pub mod CoreLemmas
pub mod BatchLaws
