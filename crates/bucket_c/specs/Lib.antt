pub mod Tables
pub mod Owning
pub mod Lending
pub mod Opening
pub mod Any
pub mod Buckets
pub mod Pieces
