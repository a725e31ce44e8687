-- Walks, cursors and sweeps.
pub mod Visits
pub mod Walks
pub mod Cursors
pub mod Row
pub mod ByUse
pub mod Sweeps
pub mod Retains
pub mod Drains
pub mod Extracting
