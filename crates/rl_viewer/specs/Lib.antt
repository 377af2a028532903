-- to be believed, in reading order
pub mod Asking
pub mod Answer
pub mod laws
