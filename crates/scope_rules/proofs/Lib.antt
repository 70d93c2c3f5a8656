-- places and names
pub mod PlacesRise
pub mod SameNames
-- bindings and faults under new names
pub mod Redeclarations
pub mod BindingsStay
pub mod NoNewFaults
-- var scopes and function-names, and names that are in use together
pub mod GivenRoles
pub mod VarScopes
pub mod FunctionNames
pub mod NamesSeparate
