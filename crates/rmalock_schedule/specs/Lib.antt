-- to be believed
pub mod Answer
pub mod laws
