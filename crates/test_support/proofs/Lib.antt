pub mod PlainBlocks
pub mod PlainMulti
pub mod PlainPlaces
