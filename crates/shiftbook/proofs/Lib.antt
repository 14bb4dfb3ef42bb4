-- Demand 3 over lists of calls, and the impostors that the promises refuse.
pub mod Numbers
pub mod Refusals
pub mod Keeps
pub mod Steps
pub mod Calls
pub mod Run
pub mod Impostors
