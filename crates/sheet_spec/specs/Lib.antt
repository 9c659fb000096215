pub mod Tally
pub mod Meaning
pub mod Rows
pub mod Places
pub mod Recording
pub mod Line
