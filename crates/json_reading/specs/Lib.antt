pub mod Readable
pub mod Parsed
pub mod Laws
