pub mod Out
pub mod Refused
pub mod Open
pub mod TracePathPart
pub mod Escapes
pub mod CodePoints
pub mod Values
pub mod Envelope
