-- a program within a value
pub mod WrappedWithin
-- a program under its new names
pub mod Mangles
pub mod ShortTexts
-- what is written of it
pub mod Answers
-- by options, words and ends
pub mod Settings
pub mod MadeInputs
pub mod Ends
