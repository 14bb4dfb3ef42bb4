-- Document 01's terms in its own order, then the theory over general frames that computes the plan.
pub mod Choice
pub mod Lent
pub mod Limits
pub mod Request
pub mod Charge
pub mod Refusals
pub mod Answer
pub mod Trace
pub mod Reward
pub mod Curves
pub mod Frames
pub mod Plan
pub mod Demands
