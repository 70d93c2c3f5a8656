pub mod Json
pub mod Units
pub mod Layout
pub mod Strings
pub mod Text
pub mod Grammar
pub mod HasText
