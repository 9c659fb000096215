pub mod Table
pub mod Refusals
pub mod Desks
pub mod SubChannels
pub mod Guarantee
pub mod Units
pub mod Captures
