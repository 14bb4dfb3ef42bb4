-- Laws of text written on, of decimal digits, and of lines: how long they are, and that they tell their figures.
pub mod Written
pub mod Decimal
pub mod Line
pub mod Tells
