pub mod Append
pub mod Faults
pub mod LogFile
pub mod Shown
