-- scopes, and what a walk leaves of a setting
pub mod Outwards
pub mod MarkedSettings
pub mod Walks
-- what a renaming leaves alone
pub mod Blind
-- numbers of nodes, and the places in their order
pub mod Numbers
pub mod Lineages
pub mod Enclosings
pub mod Rising
-- where the scopes of a place lie
pub mod Homed
pub mod Rooted
pub mod Linked
pub mod TreesRooted
