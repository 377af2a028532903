-- to be believed, in reading order
pub mod Queue
pub mod Lane
pub mod QueueGood
pub mod QueueStatements
pub mod RankWords
pub mod RankViews
pub mod Standings
pub mod Dmcs
pub mod DmcsLeft
pub mod Urgency
pub mod DmcsUrgency
pub mod Heads
pub mod QueuesApart
pub mod laws
