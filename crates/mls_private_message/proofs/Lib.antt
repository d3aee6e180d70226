pub mod Contents
pub mod WholeSenderData
pub mod Sealed
pub mod Guards
pub mod Opening
