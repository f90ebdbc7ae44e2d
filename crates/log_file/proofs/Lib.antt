pub mod Chunks
pub mod Files
pub mod Growing
pub mod Heads
pub mod Pieces
pub mod Saying
pub mod Sizes
