-- to be believed, in reading order
pub mod Sights
pub mod Drawing
-- how the code goes on
pub mod Leads
