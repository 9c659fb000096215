pub mod Export
pub mod Call
pub mod Private
