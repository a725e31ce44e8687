-- An old array: its tickets, its units, and how its pairs move.
pub mod State
pub mod Steps
pub mod Covered
pub mod Relocation
pub mod Carrying
pub mod Rehashing
pub mod Units
pub mod Finishing
