pub mod Decoded
pub mod Labels
pub mod Listing
