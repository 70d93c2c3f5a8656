-- scopes by their numbers
pub mod ScopesByNumber
-- marks outwards
pub mod StepsOutwards
pub mod MarkedOutwards
pub mod MarksHold
