pub mod ListSteps
mod Texts
