pub mod OutsideLemmas
pub mod SinkLemmas
