pub mod Line
pub mod Input
pub mod Private
