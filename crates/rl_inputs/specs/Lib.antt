-- to be believed, in reading order
pub mod Reading
pub mod Fitting
pub mod Files
pub mod Done
pub mod laws
