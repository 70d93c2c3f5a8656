-- lists that are made place by place
pub mod ChoicesFound
pub mod NumbersFound
pub mod NamesTaken
-- the names that are given
pub mod GivenIdentifiers
pub mod SlotsAreFew
pub mod AllNames
