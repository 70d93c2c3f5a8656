pub mod Renamed
pub mod Formed
pub mod Laws
