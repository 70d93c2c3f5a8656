-- what stands beside symbols
pub mod PassingBeside
-- names that are kept in place
pub mod ShortTexts
-- trees with few nodes
pub mod PlacesAreFew
-- the names of symbols
pub mod SymbolsNamed
pub mod NamesSet
