-- What grading promises, and the code's curves in the definitions' terms.
pub mod Curves
pub mod Says
