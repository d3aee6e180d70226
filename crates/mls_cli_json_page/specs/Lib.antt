pub mod JsonPage
pub mod JsonLaws
