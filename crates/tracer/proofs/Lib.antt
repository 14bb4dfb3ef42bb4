-- What the tracer rests on: the frames one after another, and the verdict.
pub mod Frames
pub mod Search
pub mod Meaning
pub mod Impostors
