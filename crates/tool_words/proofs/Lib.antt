-- numbers, digit by digit
pub mod Digits
-- options, word by word
pub mod Names
pub mod Readings
-- commands
pub mod Commands
