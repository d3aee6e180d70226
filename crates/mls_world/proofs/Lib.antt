mod Reaching
mod Replying
mod Ranging
mod Calling
pub mod Reloading
