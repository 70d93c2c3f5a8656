-- names that must not be given, and the free ones
pub mod Guarded
pub mod NextNames
pub mod FirstFree
-- which slot gets which
pub mod Queues
pub mod HandedOut
