mod Ranges
mod Writing
