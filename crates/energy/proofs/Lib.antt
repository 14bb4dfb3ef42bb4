-- Where the returned part lies.
pub mod Part
