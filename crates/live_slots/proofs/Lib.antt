-- the slots of groups in their order
pub mod ChosenSlots
pub mod SlotsFound
pub mod MarksReached
pub mod OneMoreGroup
-- what trees guarantee of groups
pub mod OfTrees
-- groups from places
pub mod Bucketed
pub mod GroupsOfPlaces
pub mod SlotsByNode
pub mod ReferencesCounted
pub mod AllPlaces
