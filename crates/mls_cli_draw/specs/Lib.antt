pub mod Picture
pub mod RowLaws
pub mod Stems
pub mod Svg
pub mod SvgStyle
pub mod SvgSubtrees
