pub mod Numbers
pub mod NewNames
pub mod AllNumbers
pub mod Laws
