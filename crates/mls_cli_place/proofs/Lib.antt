pub mod Firsts
pub mod Inputs
pub mod Items
pub mod Members
pub mod Padded
pub mod Repeating
pub mod Short
