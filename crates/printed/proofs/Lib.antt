-- The lines of frames one after the other. Refusals are short, so every listing fits its room; what can be read from
-- a listing is right; how much of a file it depends on; and texts that are no listing.
pub mod FrameLines
pub mod Short
pub mod Fits
pub mod Means
pub mod Start
pub mod Impostors
