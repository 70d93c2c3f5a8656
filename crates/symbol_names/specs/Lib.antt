pub mod Inline
pub mod Beside
pub mod Named
pub mod Found
