-- to be believed, in reading order
pub mod CallSpelling
pub mod ByRank
pub mod Blocks
pub mod Body
pub mod Ops
pub mod Asked
pub mod CallReading
pub mod OpsReading
pub mod Schedule
pub mod ScheduleReading
pub mod NextTurn
pub mod NextLine
pub mod Room
pub mod laws
