-- How fields hold a value, and how a relocation works inside. No public clause cites these modules.
pub mod TicketFields
pub mod OldFields
pub mod Moving
pub mod Landings
