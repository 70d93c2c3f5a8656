pub mod Mentions
pub mod NewNames
pub mod Joined
pub mod Plain
pub mod Bundles
pub mod Moves
pub mod Laws
