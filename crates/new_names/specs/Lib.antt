pub mod Taken
pub mod Limits
pub mod NewNames
