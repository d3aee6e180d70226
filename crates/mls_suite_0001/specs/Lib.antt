pub mod Suite0001
pub mod Suite0001Laws
