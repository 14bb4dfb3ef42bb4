-- Laws of the form, of what the frames say, of the file; reading back what was written; which files are the writer's;
-- broken files.
pub mod Machine
pub mod Sorts
pub mod Found
pub mod Files
pub mod Put
pub mod Written
pub mod Refused
pub mod Whose
pub mod ReadsBack
pub mod Broken
pub mod Impostors
