-- What the callers return.
pub mod Counts
pub mod Held
pub mod Moves
pub mod Sessions
pub mod Without
pub mod Filled
