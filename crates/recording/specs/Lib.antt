pub mod Deck
pub mod Call
pub mod Sift
pub mod Found
pub mod Packets
pub mod Private
