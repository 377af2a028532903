-- to be believed
pub mod Rested
pub mod Made
pub mod laws
