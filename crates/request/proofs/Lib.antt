-- Laws of refusals, for the code here and for the entries that ask it.
pub mod Place
pub mod Look
pub mod Harvest
pub mod BadBounds
pub mod Leasts
pub mod Within
