pub mod LeafLaws
pub mod LengthLaws
pub mod Written
pub mod Packages
pub mod New
pub mod Saving
