pub mod Vectors
pub mod VectorsFile
pub mod VectorsPassing
pub mod VectorsReport
pub mod ReportLaws
