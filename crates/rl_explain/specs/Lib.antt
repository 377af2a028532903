-- to be believed, in reading order
pub mod Finding
pub mod Found
