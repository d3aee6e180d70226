pub mod CiphertextLaws
pub mod SignedLaws
pub mod SignedParts
pub mod GroupInfoLaws
