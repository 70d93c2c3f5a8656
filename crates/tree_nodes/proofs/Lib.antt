-- tests, options, kinds and rows
pub mod Cases
pub mod EachKind
pub mod RowNames
-- runs of parts, and the columns beside them
pub mod Onto
pub mod Lists
pub mod Beside
pub mod ColumnsAlong
-- literals, and where nodes may stand
pub mod LiteralCases
pub mod StandingWalks
