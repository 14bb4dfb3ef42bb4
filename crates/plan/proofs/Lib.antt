-- Laws of the input that was read.
pub mod Read
