pub mod Buckets
pub mod Extents
pub mod Leaders
pub mod Marks
pub mod Slots
pub mod Open
