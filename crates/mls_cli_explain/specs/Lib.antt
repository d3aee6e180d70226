pub mod Explanations
pub mod Explain
