-- What contracts of the calls on collections cite.
pub mod Codes
pub mod Hashing
pub mod Views
pub mod Maps
pub mod Copies
pub mod Caches
pub mod Texts
pub mod Stores
pub mod Copying
pub mod Steps
pub mod Buckets
pub mod Sizing
