pub mod Asked
pub mod ClassNames
pub mod NameLaws
pub mod Returned
