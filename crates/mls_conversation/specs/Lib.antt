pub mod Faults
pub mod Conversation
pub mod Laws
pub mod Order
pub mod Together
