pub mod Change
pub mod Checkpoints
pub mod Numbers
pub mod Shifts
pub mod Transcript
