-- Text as bytes: quoted text, numbers in decimal digits, lines with figures, and what it means that a text is in a
-- lent list.
pub mod Ascii
pub mod Decimal
pub mod Line
pub mod Wrote
pub mod Page
