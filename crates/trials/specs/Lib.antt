pub mod Printing
pub mod Putting
pub mod Reading
