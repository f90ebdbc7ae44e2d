mod ChMaj
pub mod LaneLemmas
pub mod LongTextLemmas
pub mod PairLemmas
pub mod PrefixedLemmas
pub mod RunLemmas
pub mod TextLemmas
