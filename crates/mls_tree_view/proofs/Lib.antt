mod LongLists
mod LongRefusals
mod SentTrees
mod Walks
