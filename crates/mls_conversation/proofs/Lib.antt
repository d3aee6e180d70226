pub mod Made
pub mod Nodes
pub mod Sharing
pub mod Order
pub mod Conversing
pub mod Restoring
