pub mod GroupsOf
pub mod PlacedNumbers
