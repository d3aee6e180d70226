pub mod Bodies
pub mod Fitting
pub mod Lengths
pub mod Steps
mod Adds
mod LongList
mod OwnPath
mod Sent
mod TwoSteps
