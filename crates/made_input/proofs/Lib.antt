-- values with plain strings: their text, and what is read from it
pub mod PlainTexts
pub mod PlainReading
-- the made text in its pieces, and as a value
pub mod MadeNames
pub mod MadeValues
pub mod MadePieces
pub mod FunctionsLeft
pub mod Pushed
-- what is read from it
pub mod MadeReading
pub mod MadeShapes
pub mod MadeLimits
-- the scopes of the made tree
pub mod QuietSites
pub mod MadeSites
pub mod MadeTexts
