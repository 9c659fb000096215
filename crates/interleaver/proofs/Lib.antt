pub mod Loops
pub mod Holding
pub mod Determined
