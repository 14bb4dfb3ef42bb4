-- What drawing a level and trying a budget show.
pub mod Search
