pub mod Classes
pub mod Escaping
pub mod Judging
pub mod Places
pub mod Faults
pub mod Round
pub mod Only
pub mod Numbers
