pub mod SpreadLaws
pub mod PartLaws
pub mod OpenLaws
pub mod CellLaws
