-- When arrays get another length, and what happens to them.
pub mod ResizePlan
pub mod Sampling
pub mod Resizing
pub mod Asking
pub mod Growing
pub mod Overfull
pub mod Sparse
pub mod TableCapacity
pub mod Remaking
pub mod Renewing
