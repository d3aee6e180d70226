pub mod Crypto
pub mod Sealings
pub mod Labels
pub mod LabelCalls
pub mod LabelLaws
pub mod Glass
pub mod GlassLaws
