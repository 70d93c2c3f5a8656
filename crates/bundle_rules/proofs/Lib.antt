-- counts and numbers along the walk
pub mod Counted
pub mod MovedWalks
pub mod ScopesLie
pub mod JoinedSites
-- bindings and names among the places of all modules
pub mod TaggedPlaces
pub mod NewNamesApart
pub mod BundlePlaces
pub mod BundleScopes
-- bindings under the new names
pub mod KeptApart
pub mod ClassesLie
pub mod PrivateKept
pub mod BundleBindings
pub mod JointFaults
pub mod BundleFaults
pub mod NodesLie
