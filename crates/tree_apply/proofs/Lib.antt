-- names that are given, one place after another
pub mod GivenInTurn
-- what places are bound to
pub mod SymbolsOfPlaces
-- what places are called
pub mod CalledNow
pub mod AppliedMangles
