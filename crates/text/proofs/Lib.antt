pub mod Digits
pub mod Numbers
pub mod Putting
pub mod Delivering
pub mod Determined
