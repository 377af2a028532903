pub mod CompletingLaws
pub mod NextLaws
