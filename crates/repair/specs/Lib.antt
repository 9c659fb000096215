pub mod Mended
pub mod Promise
pub mod Way
