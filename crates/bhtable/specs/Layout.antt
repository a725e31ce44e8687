-- The inner workings of the program. No public clause cites a module below this one.
pub mod Forms
pub mod Replies
pub mod Sessions
pub mod Stops
pub mod Window
