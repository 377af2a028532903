pub mod OpeningLaws
pub mod ClosingLaws
pub mod Members
pub mod Tenures
pub mod EndLaws
pub mod Totals
pub mod SeatLists
pub mod Ended
