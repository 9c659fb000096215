pub mod Short
pub mod Writing
pub mod Counting
pub mod Determined
