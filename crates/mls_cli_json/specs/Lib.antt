pub mod Json
pub mod HexText
pub mod Lists
pub mod Faults
