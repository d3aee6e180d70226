pub mod Below
mod Paths
mod Contexts
mod Mapped
mod Keys
mod Bodies
mod Receiving
