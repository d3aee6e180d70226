pub mod Deliveries
pub mod FirstReplies
