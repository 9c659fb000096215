pub mod Tags
pub mod Counting
pub mod Printing
pub mod Output
pub mod Did
pub mod Listing
pub mod Ends
pub mod Determined
