-- The laws behind starting and recording.
pub mod Record
pub mod Started
