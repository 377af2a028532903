-- to be believed
pub mod Ticket
pub mod TicketLeft
pub mod laws
