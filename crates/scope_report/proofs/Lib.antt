-- tests
pub mod EitherTest
-- loops over places
pub mod BoundPlaces
-- scopes further out, and what they declare
pub mod OuterScopes
-- nodes by number
pub mod NodesAround
-- findings in order, and faults among them
pub mod FoundSteps
pub mod FaultsFound
-- a walk over a text that tells lines and columns
pub mod PositionSteps
-- starts in the text
pub mod Starts
