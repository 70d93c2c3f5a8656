pub mod Blocks
pub mod Flags
pub mod Lines
pub mod Names
