pub mod PrintLaws
mod Playing
mod Naming
mod Delivering
mod Ending
mod Pages
mod Closing
mod Stopping
mod Reporting
mod AtFault
pub mod ReportLaws
mod Messages
mod FoundMessages
mod Quietly
mod Wording
mod Viewing
mod OneViews
