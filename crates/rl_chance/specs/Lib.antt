-- to be believed
pub mod Draws
