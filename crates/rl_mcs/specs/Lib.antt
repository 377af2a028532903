-- to be believed, in reading order
pub mod Mcs
pub mod McsLeft
pub mod McsUrgency
pub mod laws
