-- code and its mirror in tables
pub mod LeadingDirectives
pub mod WalkSteps
-- tables by number
pub mod NumbersStand
pub mod OuterComesFirst
-- the mirror and the walk that gives the places
pub mod HiddenFields
pub mod WalksAgree
pub mod NodesAgree
pub mod TablesStand
-- reading the tables
pub mod OutwardWalks
pub mod PlacesStand
-- names
pub mod Numbering
