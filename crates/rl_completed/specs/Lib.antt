-- to be believed
pub mod Completing
