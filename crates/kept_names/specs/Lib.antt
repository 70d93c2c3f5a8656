pub mod Views
pub mod Keeping
pub mod Marks
pub mod Puts
pub mod NamesKept
pub mod ScopeFlags
pub mod Causes
pub mod GroupsAt
