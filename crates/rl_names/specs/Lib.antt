-- to be believed, in reading order
pub mod Layout
pub mod Names
pub mod Spelling
pub mod StepWords
