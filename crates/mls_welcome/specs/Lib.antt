pub mod Faults
pub mod Joiners
pub mod WelcomeMessage
pub mod Entries
pub mod Ranges
pub mod SentSecrets
