-- Scripts: what each call does to the map and to the tickets.
pub mod Calls
pub mod TicketCalls
pub mod Runs
pub mod Tallying
pub mod Hashes
pub mod HashLaws
