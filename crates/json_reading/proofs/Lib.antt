-- a value's text, as tokens, and what these are read as
pub mod Strings
pub mod Raw
pub mod Lexed
pub mod Punctuated
pub mod Utf8
pub mod ValuesRead
-- the tree that a value is, and the one that is read from its text
pub mod Puts
pub mod Fields
pub mod Shapes
pub mod TreeValues
-- the limits
pub mod Sizes
pub mod TreesRead
