pub mod Speaks
pub mod Sending
pub mod Pieces
