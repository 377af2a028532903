pub mod AtomLengths
pub mod SeatLemmas
