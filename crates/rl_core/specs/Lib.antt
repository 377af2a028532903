-- to be believed, in reading order: what a rank asks for, and how far it is with that
pub mod Asks
pub mod Desks
pub mod RankGood
-- and what a shard's core is
pub mod Standings
pub mod EventRanks
pub mod Domains
pub mod ShardTables
pub mod Moments
pub mod Idle
pub mod Rounds
pub mod Touches
pub mod Answering
pub mod ShardLaws
pub mod GoodStates
pub mod ShardEnding
pub mod ShardGuiding
pub mod laws
