-- to be believed, in reading order
pub mod Rule
pub mod Plays
pub mod Seats
pub mod Ports
pub mod laws
