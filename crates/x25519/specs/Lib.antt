pub mod Rfc7748
pub mod Laws
