pub mod Bits
pub mod Lines
pub mod Names
pub mod Mnemonics
pub mod Laws
