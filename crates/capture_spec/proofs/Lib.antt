pub mod Entry
pub mod Export
pub mod Faults
pub mod Order
pub mod Numbers
