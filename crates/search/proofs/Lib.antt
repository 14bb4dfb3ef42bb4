-- The laws behind the functions' proofs.
pub mod Walk
pub mod Range
