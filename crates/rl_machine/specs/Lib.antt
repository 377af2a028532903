-- to be believed, in reading order
pub mod Running
pub mod Start
pub mod ShardSteps
pub mod Run
pub mod Rest
pub mod RunTransitions
pub mod Cores
pub mod Causes
pub mod Told
pub mod Rested
pub mod EventOrder
pub mod Changes
pub mod Promises
pub mod Records
pub mod Whereabouts
pub mod NextAtoms
pub mod MachineEnding
pub mod GoesNext
pub mod State
-- what is true of a machine at every moment
pub mod MachineGood
pub mod Ruled
pub mod Choosing
pub mod laws
