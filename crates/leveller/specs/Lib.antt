-- What planning asks and gives.
pub mod Plan
pub mod Says
