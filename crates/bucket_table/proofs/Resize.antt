-- Plans, their samples, and what a resize keeps.
pub mod Samples
pub mod PlanIsOne
pub mod PlanBounds
pub mod Neighbours
pub mod GivingUp
pub mod Following
pub mod Asked
pub mod Settling
pub mod Growing
pub mod Remaking
pub mod Pouring
pub mod ChainByAge
pub mod ByAge
pub mod PouringOne
pub mod Renewing
pub mod Splitting
pub mod Sparse
