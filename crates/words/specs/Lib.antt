pub mod Tags
pub mod Balance
pub mod Binoid
pub mod Outermost
pub mod Reduced
pub mod Reader
pub mod Classes
