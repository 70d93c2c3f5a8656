-- names of open classes around, and a search past them
pub mod OpenNames
pub mod Passing
-- the numbers of a class body, of all, and of what is declared
pub mod Numbered
pub mod Held
pub mod Declared
pub mod Outward
pub mod Places
