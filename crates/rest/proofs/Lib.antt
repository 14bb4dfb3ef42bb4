-- The laws behind planning the rest and returning its part.
pub mod Ending
mod Filled
pub mod Open
pub mod Planned
