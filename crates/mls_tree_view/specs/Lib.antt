pub mod LongList
pub mod SentTree
