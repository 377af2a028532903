-- to be believed, in reading order
pub mod Rows
pub mod Calling
pub mod Callers
pub mod Told
pub mod Made
pub mod Runs
pub mod laws
