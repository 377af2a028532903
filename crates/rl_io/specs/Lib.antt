-- to be believed, in reading order
pub mod Outside
pub mod Whole
pub mod Script
pub mod Files
pub mod Sinks
pub mod laws
