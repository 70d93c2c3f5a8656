pub mod Marks
pub mod Open
