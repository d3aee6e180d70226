pub mod Feeds
pub mod Counter
pub mod Originals
