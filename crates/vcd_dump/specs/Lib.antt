pub mod Digits
pub mod Vcd
