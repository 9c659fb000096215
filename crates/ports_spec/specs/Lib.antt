pub mod Forgot
pub mod Distance
pub mod Ports
pub mod Range
pub mod Refusing
