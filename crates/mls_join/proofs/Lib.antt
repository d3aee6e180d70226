pub mod Lengths
pub mod Welcomes
pub mod Places
pub mod Joining
mod FewNodes
mod SentTree
