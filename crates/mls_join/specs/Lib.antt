pub mod Faults
pub mod Entrance
pub mod Parts
pub mod Stages
pub mod FewNodes
