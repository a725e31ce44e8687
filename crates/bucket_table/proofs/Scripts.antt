-- Steps of a script, and runs of them.
pub mod RunSteps
pub mod CallSteps
pub mod TicketLaws
