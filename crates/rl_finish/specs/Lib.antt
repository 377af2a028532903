-- to be believed
pub mod WayOn
pub mod laws
