pub mod File
pub mod Meaning
pub mod Order
