-- to be believed, in reading order
pub mod Alock
pub mod AlockLeft
pub mod AlockUrgency
pub mod AlockGood
pub mod Overtakes
pub mod laws
