-- Laws of lent lists, of words and of their bytes.
pub mod Lists
pub mod Masks
pub mod Words
pub mod Bytes
