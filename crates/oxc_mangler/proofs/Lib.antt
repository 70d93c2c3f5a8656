-- what is asked
pub mod OptionsTold
pub mod NodesCounted
-- private names, class by class
pub mod LookedUp
pub mod ClassNamesFound
-- all together
pub mod AllFound
-- the laws on names
pub mod NamesMeetLaws
