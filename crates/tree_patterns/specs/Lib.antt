pub mod BoundNames
pub mod ByRoles
pub mod ByKind
