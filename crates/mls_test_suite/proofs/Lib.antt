pub mod BareLaws
pub mod Uses
