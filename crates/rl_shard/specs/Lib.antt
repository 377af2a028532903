-- to be believed, in reading order
pub mod Tallies
pub mod Queues
pub mod Reached
pub mod Counting
pub mod Shards
pub mod Steps
pub mod Guards
pub mod Live
pub mod Domains
pub mod Ends
-- of the code's own calls
pub mod Starts
pub mod Stepping
pub mod Closing
pub mod laws
