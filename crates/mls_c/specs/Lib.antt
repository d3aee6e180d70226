pub mod Loose
pub mod Memory
pub mod Passing
