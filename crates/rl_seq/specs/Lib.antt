-- to be believed, in reading order
pub mod Site
pub mod SeqWork
pub mod SeqGood
pub mod Rule
pub mod SeqLeft
-- what the code needs of its numbers, and the place of its struct
pub mod SeqCode
pub mod Place
pub mod laws
