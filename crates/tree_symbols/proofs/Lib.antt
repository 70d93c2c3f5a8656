-- rows and lists with an item more
pub mod Mapped
pub mod Rising
pub mod Numbered
pub mod Filtered
pub mod Beside
-- one place, and all
pub mod KnownPlaces
pub mod Fitting
-- what the rules say
pub mod RulesHold
pub mod ReferencesHold
-- names
pub mod NamesLeft
pub mod NamesSet
-- scopes, and what is read of them
pub mod Outwards
pub mod Readings
pub mod Built
