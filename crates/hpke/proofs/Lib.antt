pub mod HpkeLaws
pub mod ZeroLemmas
