mod SealedEntries
mod Fitting
mod Measured
mod Messages
mod Adds
