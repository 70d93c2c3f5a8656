-- joined runs, the steps of the walk's loops, a mark that is taken off
pub mod RenamedJoined
pub mod LoopSteps
pub mod MarkOff
-- what renaming changes and what it keeps
pub mod OwnFirst
pub mod FinishedKeepsBelow
pub mod RenamedAlike
pub mod RenamedNames
pub mod RenamedMarks
pub mod WalkRenames
-- a run that looks like one that fits the table and stands where it may
pub mod AdmitsBlind
pub mod IdentifierNames
pub mod FormedFits
pub mod RenamedFields
pub mod FitsAlike
pub mod StandsAlike
-- programs
pub mod RenamedTexts
pub mod RenamedPrograms
