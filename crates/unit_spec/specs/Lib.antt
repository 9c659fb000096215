pub mod Bits
pub mod Tables
pub mod Unit
pub mod Reading
pub mod Refusing
