-- to be believed, in reading order
pub mod Tree
pub mod Elements
pub mod Fits
pub mod TreeGood
pub mod TreeShape
pub mod TreeFacts
pub mod laws
