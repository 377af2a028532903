-- to be believed, in reading order
pub mod Site
pub mod Transcript
pub mod Opens
pub mod laws
