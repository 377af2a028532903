-- to be believed
pub mod Reported
-- of the code's own calls
pub mod Lists
pub mod laws
