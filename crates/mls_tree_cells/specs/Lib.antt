pub mod Cells
pub mod Rows
pub mod Chunks
pub mod Parts
