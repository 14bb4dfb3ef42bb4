-- What C gets of each entry's answer.
pub mod Refusal
pub mod Flat
