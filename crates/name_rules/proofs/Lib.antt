-- numbers and short names
pub mod CountFrom
pub mod Greatest
pub mod ShortNumbers
pub mod Characters
pub mod Identifiers
-- groups and their slots
pub mod GroupsStandApart
pub mod LiveTogether
pub mod SlotsAreFewest
pub mod GroupsInOrder
-- names that are given by slot
pub mod SlotNamesKeepApart
pub mod FirstUntaken
pub mod Ranks
pub mod GivenNamesFit
pub mod GivenNamesKeepBindings
-- private names
pub mod NthUnlisted
pub mod PrivateChains
-- trees under new names
pub mod SlotsAreUsed
pub mod Mangling
pub mod ChosenNames
-- rivals, bounds and costs
pub mod Rivals
pub mod Bounds
pub mod Totals
pub mod Spelled
pub mod Shortest
