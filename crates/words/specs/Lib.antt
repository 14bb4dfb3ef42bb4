-- Words and their bytes, and what putting words into a list means.
pub mod Words
pub mod Puts
pub mod Spelt
