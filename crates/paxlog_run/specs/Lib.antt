pub mod Entries
pub mod Places
pub mod Replies
pub mod Requests
pub mod Verdicts
