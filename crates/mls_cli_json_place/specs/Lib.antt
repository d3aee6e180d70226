pub mod Faults
pub mod Lists
pub mod Events
pub mod RecordingFile
pub mod VectorsFile
pub mod Text
pub mod TextLaws
