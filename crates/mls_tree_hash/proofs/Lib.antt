pub mod Feeding
pub mod Headers
pub mod Parents
pub mod Waiting
