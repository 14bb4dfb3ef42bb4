-- What the number of an answer says.
pub mod Number
