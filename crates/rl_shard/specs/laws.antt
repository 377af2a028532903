pub mod TallyLaws
pub mod CountingLaws
pub mod SeatLaws
pub mod Guards
