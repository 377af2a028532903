-- for tests
pub mod Fresh
