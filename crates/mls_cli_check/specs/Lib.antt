pub mod Check
pub mod CheckFaults
pub mod RuleLines
pub mod GroupInfo
pub mod Drawing
pub mod Unchecked
pub mod LongList
