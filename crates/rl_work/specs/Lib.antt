-- to be believed, in reading order: what a way of working is
pub mod Ways
-- and each block under its lock
pub mod Work
pub mod Locked
pub mod WorkGood
pub mod Rule
-- for a way of working without a dead end, and what is left of these blocks
pub mod WorkEnding
pub mod LockedLeft
-- for ways of working that read without a lock
pub mod Unlocked
pub mod PlainWork
pub mod laws
