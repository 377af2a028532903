pub mod Sums
pub mod SumLaws
pub mod EndingLaws
pub mod Reach
