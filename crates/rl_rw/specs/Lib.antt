-- to be believed, in reading order
pub mod Rw
pub mod Fits
pub mod RwLeft
pub mod RwUrgency
pub mod RwGood
pub mod laws
