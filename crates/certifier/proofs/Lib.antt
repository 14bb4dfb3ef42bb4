-- The laws behind the functions' proofs.
pub mod Reserve
pub mod Reading
pub mod Course
pub mod Weights
pub mod Steps
pub mod Budgets
pub mod Requires
