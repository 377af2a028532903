-- a core whose ranks load one word again and again, and one whose ranks make each kind of atom
pub mod Loader
pub mod Rounds
-- a tree of three levels
pub mod Tower
pub mod laws
