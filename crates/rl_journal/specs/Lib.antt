-- to be believed, in reading order
pub mod Blocks
pub mod Legal
pub mod Ranks
pub mod History
pub mod Journal
pub mod Tenures
pub mod laws
