-- Tickets and units.
pub mod Handing
pub mod Covering
pub mod Ending
pub mod UnitSteps
pub mod UnitWork
pub mod UnitRuns
pub mod Spending
pub mod Killing
pub mod NeedingMemory
pub mod FinishingUnits
pub mod StayingKilled
pub mod TicketSteps
pub mod MovesInArrays
