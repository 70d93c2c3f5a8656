pub mod Answer
pub mod Asked
pub mod Input
pub mod Make
pub mod Mangling
pub mod Output
pub mod Run
pub mod Status
