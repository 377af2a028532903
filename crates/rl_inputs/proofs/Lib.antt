pub mod ReadLemmas
mod ReplayLemmas
pub mod SuitLaws
pub mod TellingLaws
