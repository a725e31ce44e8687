-- What contracts see of arrays and of a table, what holds of them and what they lend.
pub mod ArraysView
pub mod Sides
pub mod Locking
pub mod Keeping
pub mod Settings
pub mod ArrayLoan
pub mod OldLoan
pub mod ArraysLoan
pub mod ArrayAccess
pub mod TableRow
pub mod LockedLaws
pub mod LockedLoans
pub mod LockedChanges
