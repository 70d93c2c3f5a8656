-- tests, and the items of a list
pub mod Tests
pub mod Members
pub mod Mapped
-- what holds of all items, of each and each later one, and of one
pub mod AllOf
pub mod PairsOf
pub mod AnyOf
-- what is found, what is kept, and how many
pub mod FirstOf
pub mod Filtered
pub mod Counting
