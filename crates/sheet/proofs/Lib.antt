pub mod Writing
pub mod Determined
pub mod Month
pub mod Ways
pub mod Told
