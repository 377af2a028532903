-- to be believed, in reading order
pub mod Cut
pub mod Rows
pub mod Number
pub mod Causes
pub mod Reading
pub mod LineWords
pub mod Short
pub mod Spelling
pub mod Printing
