pub mod Expiring
pub mod LoggingIn
pub mod Touching
