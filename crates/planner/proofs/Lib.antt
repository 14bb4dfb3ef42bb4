-- The laws that the entries rest on.
pub mod Entries
pub mod Impostors
