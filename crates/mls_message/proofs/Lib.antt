pub mod TextLaws
pub mod WithinLaws
pub mod Refusals
