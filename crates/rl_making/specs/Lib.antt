-- to be believed, in reading order
pub mod Generate
pub mod Laps
pub mod Summary
-- what is counted of a machine; skip at first
pub mod Counting
