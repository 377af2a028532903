pub mod Leading
pub mod Stages
pub mod Stopping
pub mod Lines
pub mod Texts
