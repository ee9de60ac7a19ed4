mod Simple
mod Numerals
