pub mod Buffer
pub mod Cache
