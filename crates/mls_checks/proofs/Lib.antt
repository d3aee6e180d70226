pub mod LeafLaws
pub mod SignedLaws
