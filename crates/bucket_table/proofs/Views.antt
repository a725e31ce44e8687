-- What holds of arrays when one bucket changes, and what they lend.
pub mod Keeping
pub mod SettingsKept
pub mod MarksKept
pub mod Killed
pub mod Laws
pub mod Lent
pub mod SideChanges
pub mod LockedLaw
pub mod LockedValues
pub mod Truncated
