pub mod Known
pub mod SymbolTables
pub mod Flags
pub mod ReferenceTables
pub mod Unresolved
pub mod Scopings
pub mod Around
