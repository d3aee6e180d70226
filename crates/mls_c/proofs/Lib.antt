pub mod Apart
pub mod CallRows
pub mod Exits
pub mod Loosened
pub mod Named
pub mod Rows
