-- to be believed, in reading order
pub mod Paths
pub mod Numbering
pub mod LockWords
pub mod Places
pub mod Spelling
pub mod Reading
pub mod Shapes
pub mod ShapeText
