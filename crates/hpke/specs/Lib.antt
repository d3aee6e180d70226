pub mod Rfc9180
pub mod Laws
pub mod Sealing
