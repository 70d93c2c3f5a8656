pub mod Guard
pub mod NextName
pub mod FirstFree
pub mod Waiting
