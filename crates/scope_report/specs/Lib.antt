pub mod Exports
pub mod Rules
pub mod Found
pub mod Findings
pub mod Laws
pub mod Positions
pub mod Views
