-- What the program says of the input that it read.
pub mod Read
