pub mod Loader
pub mod Rounds
pub mod Tower
