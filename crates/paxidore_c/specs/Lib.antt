pub mod KeptAnswer
pub mod KeptMaps
pub mod LogMulti
pub mod Maps
pub mod Notes
pub mod Poseidon
pub mod PoseidonLog
pub mod PoseidonInsertion
