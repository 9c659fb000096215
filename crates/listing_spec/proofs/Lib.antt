pub mod Apart
pub mod Totals
pub mod Numbers
pub mod Offsets
pub mod Wrong
pub mod Described
