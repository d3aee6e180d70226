pub mod Pages
pub mod Pieces
mod Digits
mod Trims
mod Fronts
