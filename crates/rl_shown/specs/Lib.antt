-- to be believed, in reading order
pub mod Listing
pub mod State
pub mod Cores
-- both by one task over the locks
pub mod Telling
