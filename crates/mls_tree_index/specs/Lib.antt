pub mod Keys
pub mod Order
pub mod Indexes
pub mod BlankedCells
pub mod Entries
pub mod Block
pub mod Blocks
pub mod Searches
