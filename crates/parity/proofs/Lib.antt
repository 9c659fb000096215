pub mod Loops
pub mod Refusing
pub mod Determined
