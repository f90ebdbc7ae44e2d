pub mod Forms
pub mod Plans
