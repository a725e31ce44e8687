-- The map that a table represents, and what a call by key does to it and to the arrays.
pub mod MapState
pub mod LookingUp
pub mod ByKey
pub mod Putting
pub mod Replacing
pub mod Lending
pub mod Counting
pub mod Finding
pub mod Splitting
pub mod Preparing
pub mod Refusing
pub mod Taking
pub mod Vacancies
pub mod Free
pub mod Cloning
pub mod StdHashes
