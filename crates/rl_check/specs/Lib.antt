-- to be believed, in reading order
pub mod Tests
pub mod Faults
pub mod Entries
pub mod Shards
pub mod Ranks
pub mod LawfulReplays
pub mod Legal
-- how far the tests have come; skip at first
pub mod OneThread
pub mod Only
pub mod Finding
pub mod Tallying
pub mod QueuesOf
pub mod Watching
pub mod Slots
pub mod Threads
