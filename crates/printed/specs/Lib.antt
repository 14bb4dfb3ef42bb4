-- The text that the plan program prints, and what can be read from it.
pub mod Text
pub mod Means
