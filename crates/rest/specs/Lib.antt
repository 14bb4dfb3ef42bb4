-- The rest of a shift: its request, refusals and budgets, and what planning it and returning its part promise.
pub mod Rest
pub mod Says
