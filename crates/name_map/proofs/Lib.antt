-- joined runs, the steps of the walk's loops
pub mod FilledJoined
pub mod FillSteps
pub mod FlagPut
-- what filling changes and what it keeps
pub mod FilledAlike
pub mod FilledNames
pub mod FilledBack
-- programs
pub mod FilledPrograms
-- Properties
pub mod ListedPairs
-- lists
pub mod ListSteps
pub mod NamesChosen
pub mod Entries
-- trees that are the same, and a tree that is another renamed
pub mod SameTrees
pub mod RenamedTold
pub mod KeptSteps
-- what a map gives back
pub mod Restored
pub mod PairItems
pub mod MadeMaps
-- what a map is as text
pub mod WrittenMaps
