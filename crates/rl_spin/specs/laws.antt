pub mod SpinLaws
pub mod SpinEnding
pub mod SpinGuiding
