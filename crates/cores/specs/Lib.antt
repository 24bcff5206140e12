pub mod Counting
pub mod Laws
pub mod Naming
pub mod Placing
