-- Refusals 9 and 11 as the code finds them, and lists of one length.
pub mod Each
pub mod Reach
