pub mod EntriesLemmas
pub mod SliceInputs
pub mod MessageLaws
pub mod PartLaws
pub mod PublicLaws
pub mod WalkLaws
