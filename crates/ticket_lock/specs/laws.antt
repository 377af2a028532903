pub mod TicketLaws
pub mod TicketEnding
