-- loops over places: one that passes, a set, a map of first values
pub mod AnyPassing
pub mod FirstValues
-- places with their bindings
pub mod HoldsOfAll
-- which bindings are kept
pub mod SymbolsKept
pub mod NameCauses
pub mod ScopesFlagged
pub mod KeptBindings
-- groups
pub mod GroupsFound
