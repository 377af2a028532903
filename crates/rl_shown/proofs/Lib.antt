pub mod ListingLaws
pub mod FrontLaws
pub mod CoresLaws
pub mod TellingLaws
