-- to be believed, in reading order
pub mod Acts
pub mod Shapes
pub mod LockFacts
-- shapes for tests
pub mod OneNode
pub mod laws
