pub mod KeyCounts
pub mod Moving
pub mod Putting
pub mod WithoutKeys
pub mod Picked
pub mod RoomYet
