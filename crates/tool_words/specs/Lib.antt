pub mod MadeNumber
pub mod Words
pub mod Readings
