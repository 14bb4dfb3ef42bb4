-- Cases worked by hand.
pub mod Cases
