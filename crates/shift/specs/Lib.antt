-- The running shift: its record and refusals, and what starting and recording promise.
pub mod Shift
pub mod Says
