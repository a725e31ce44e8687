-- What the store's calls do to its sessions.
pub mod Sessions
