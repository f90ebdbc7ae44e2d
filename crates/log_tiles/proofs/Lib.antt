mod Audited
mod Completed
mod Honest
mod TiledFiles
mod Bundled
mod Fronts
mod Followed
mod Leading
mod Published
mod Rows
pub mod Sized
mod Shown
pub mod Still
mod TileRows
mod Trees
mod Written
pub mod OtherLogs
