-- The pairs of one old bucket move, and their order with them.
pub mod Exchanges
pub mod Vacating
pub mod MarksLeft
pub mod MovingPairs
pub mod SpreadHomes
pub mod RoomMade
pub mod Relocating
pub mod Staying
pub mod Landings
pub mod Arriving
pub mod Carried
pub mod CarriedPairs
pub mod CarriedOrder
pub mod MovingInOrder
pub mod CountingTargets
pub mod HomesByDivision
pub mod Ways
