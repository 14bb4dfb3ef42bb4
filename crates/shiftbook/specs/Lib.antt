-- The logbook, the kinds of call, and demand 3 over lists of calls.
pub mod Logbook
pub mod Value
pub mod Kind
pub mod Calls
pub mod Run
