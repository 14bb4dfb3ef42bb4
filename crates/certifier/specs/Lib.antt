-- What the certifying code promises, function by function, in terms of the model's frames, reserves and plan.
pub mod Frame
pub mod Course
pub mod Caught
pub mod Steps
pub mod Readable
pub mod Able
pub mod Says
pub mod Draft
