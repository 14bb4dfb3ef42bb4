-- What the planner's entries promise.
pub mod Says
