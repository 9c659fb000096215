pub mod Decimal
pub mod Reading
pub mod Lines
pub mod Verdicts
pub mod Determined
pub mod Numbers
