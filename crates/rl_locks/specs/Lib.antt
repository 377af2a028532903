-- to be believed
pub mod Kinds
pub mod Settings
pub mod Runs
pub mod Urgencies
pub mod Loads
pub mod Holding
pub mod OnShards
pub mod Optimistic
pub mod Combining
pub mod SweepRuns
pub mod SeatDomains
