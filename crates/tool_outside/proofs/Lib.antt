-- bytes that are told, over several calls
pub mod ToldBytes
