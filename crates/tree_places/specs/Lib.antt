pub mod Scopes
pub mod Places
pub mod Renaming
pub mod Chosen
pub mod Lineage
pub mod Enclosing
pub mod Laws
pub mod Open
