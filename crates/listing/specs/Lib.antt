-- What listing a word file promises.
pub mod Says
