pub mod Order
pub mod Walk
pub mod NextOfKind
