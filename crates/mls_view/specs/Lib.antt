pub mod Views
pub mod Shown
pub mod SliceInputs
pub mod Entries
