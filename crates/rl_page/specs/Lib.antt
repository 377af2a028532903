-- to be believed
pub mod PageData
