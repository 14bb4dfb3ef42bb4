-- What grading rests on: the bands, and the promise.
pub mod Bands
pub mod Meaning
pub mod Impostors
