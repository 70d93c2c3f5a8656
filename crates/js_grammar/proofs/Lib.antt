pub mod Levels
pub mod SoundShapes
-- the three laws on printed tokens
pub mod PrintedDerive
pub mod Fewest
pub mod Classes
pub mod Reader
pub mod OneShape
