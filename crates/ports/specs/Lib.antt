pub mod ByValue
pub mod Private
