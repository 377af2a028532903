-- to be believed, in reading order
pub mod Naming
pub mod Reports
pub mod Spelling
pub mod Reading
pub mod Tallies
pub mod Lawful
pub mod Printing
-- of the code's own calls
pub mod Merging
