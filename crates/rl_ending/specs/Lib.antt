-- to be believed
pub mod Ending
pub mod Guiding
-- for locks that say what is left as two sums
pub mod TwoSums
pub mod laws
