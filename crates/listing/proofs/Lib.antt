-- Laws of the parts that an accepted request has, and of a file that was read.
pub mod Parts
pub mod Read
