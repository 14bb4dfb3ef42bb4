-- What the exported functions promise: what the entry under each promises, of an answer told as `Flat` (of the crate
-- answers) and `Part` say.
pub mod Through
pub mod Part
