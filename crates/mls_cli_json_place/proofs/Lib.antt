pub mod Options
pub mod Tables
pub mod Arrays
pub mod Loops
pub mod EventLaws
pub mod VectorLaws
pub mod FileLaws
pub mod Texts
